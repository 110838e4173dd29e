pub mod Calls
pub mod Family
pub mod Claims
