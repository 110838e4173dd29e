pub mod Bits
pub mod Step
pub mod Field
pub mod Exchange
pub mod Frames
pub mod Place
pub mod Code
