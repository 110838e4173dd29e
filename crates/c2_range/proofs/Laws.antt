-- The laws of the definitions, each in the module of the definition that it is about.
pub mod Acts
pub mod Bounds
pub mod Decide
pub mod Pairs
pub mod Range
