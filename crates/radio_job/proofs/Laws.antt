-- The laws of the definitions, each in the module of the definition that it is about.
pub mod Image
pub mod Ends
pub mod Advance
pub mod Fits
pub mod Examples
