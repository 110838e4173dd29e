pub mod Image
pub mod Job
pub mod State
pub mod Advance
pub mod Claims
pub mod Examples
