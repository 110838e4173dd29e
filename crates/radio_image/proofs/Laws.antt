-- The laws of the definitions, each in the module of the definition that it is about.
pub mod Page
