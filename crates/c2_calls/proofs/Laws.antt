-- The laws of the definitions, each in the module of the definition that it is about.
pub mod Claims
pub mod Figure
pub mod Family
