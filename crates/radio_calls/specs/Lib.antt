pub mod Calls
pub mod Family
