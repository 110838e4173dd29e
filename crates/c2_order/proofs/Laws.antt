-- The laws of the definitions, each in the module of the definition that it is about.
pub mod Valid
pub mod Point
pub mod Stands
pub mod Figure
pub mod Order
pub mod Ends
pub mod Claims
pub mod Conversation
pub mod Wait
pub mod Paper
