pub mod Report
pub mod Code
pub mod Claims
