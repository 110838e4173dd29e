-- The laws of the definitions, each in the module of the definition that it is about.
pub mod Target
pub mod Known
pub mod Flash
pub mod Loop
