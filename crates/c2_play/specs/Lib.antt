pub mod Playing
pub mod Pages
pub mod Job
pub mod Claims
