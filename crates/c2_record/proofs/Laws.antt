-- The laws of the definitions, each in the module of the definition that it is about.
pub mod Record
pub mod Fields
pub mod Spare
pub mod Claims
pub mod Said
pub mod Holds
pub mod Put
