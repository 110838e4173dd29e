-- The laws of the definitions, each in the module of the definition that it is about.
pub mod Loop
pub mod Open
pub mod Advance
pub mod StepsLeft
