pub mod Acts
pub mod Order
pub mod Conversation
pub mod Point
pub mod Figure
pub mod Claims
pub mod Paper
