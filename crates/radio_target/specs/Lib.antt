pub mod Deeds
pub mod Model
pub mod State
pub mod Claims
pub mod Answers
