-- The laws of the definitions, each in the module of the definition that it is about.
pub mod Answers
pub mod Ranges
pub mod First
pub mod Covered
pub mod Listed
pub mod Claims
pub mod Pieces
pub mod Examples
