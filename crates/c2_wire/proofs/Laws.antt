-- The laws of the definitions, each in the module of the definition that it is about.
pub mod Bits
pub mod Exchange
pub mod Place
pub mod Frames
pub mod Script
pub mod Table
