pub mod State
pub mod Model
pub mod Code
pub mod Claims
