pub mod Numbers
pub mod Command
pub mod Building
pub mod Claims
