pub mod Position
pub mod Claims
