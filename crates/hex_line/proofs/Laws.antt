-- The laws of the definitions.
pub mod Cases
pub mod Shape
pub mod Weighing
