pub mod Flash
pub mod Code
