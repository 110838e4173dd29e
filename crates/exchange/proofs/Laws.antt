-- The laws of the definitions, each in the module of the definition that it is about.
pub mod Exchange
pub mod Calls
pub mod Machine
pub mod Served
pub mod Countdown
