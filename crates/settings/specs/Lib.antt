pub mod Opening
pub mod Accepted
pub mod Registers
