pub mod Run
pub mod Flashes
pub mod Claims
pub mod Cut
