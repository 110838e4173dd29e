-- The laws of the definitions.
pub mod Marking
pub mod Judging
pub mod Filling
pub mod Answering
