pub mod Ranges
pub mod Answers
pub mod Claims
pub mod Examples
