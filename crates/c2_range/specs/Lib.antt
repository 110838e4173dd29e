pub mod Code
pub mod Claims
pub mod Range
