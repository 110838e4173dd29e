-- The laws of the definitions.
pub mod Answers
pub mod Deeds
pub mod Model
pub mod Claims
