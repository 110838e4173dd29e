pub mod Exchange
pub mod Calls
pub mod Machine
pub mod Served
pub mod Countdown
