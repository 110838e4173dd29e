pub mod Opened
pub mod Code
