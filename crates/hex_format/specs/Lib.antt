pub mod Digits
pub mod Lines
pub mod Reading
pub mod Writing
pub mod Examples
pub mod Claims
