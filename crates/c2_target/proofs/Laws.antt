-- The laws of the definitions, each in the module of the definition that it is about.
pub mod Interface
pub mod Wanted
pub mod KnownPoint
pub mod Known
pub mod Steps
pub mod Mark
pub mod Corners
