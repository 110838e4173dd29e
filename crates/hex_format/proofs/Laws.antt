-- The laws of the definitions.
pub mod Digits
pub mod Lines
pub mod Stores
pub mod Cells
pub mod Steps
pub mod Writing
pub mod ReadBack
pub mod Histories
pub mod Pages
pub mod Faults
pub mod Claims
pub mod Decided
