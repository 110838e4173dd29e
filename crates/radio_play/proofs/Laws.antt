-- The laws of the definitions, each in the module of the definition that it is about.
pub mod Steps
pub mod Lists
pub mod Flashes
pub mod Parts
pub mod Claims
pub mod Cut
