-- The laws of the definitions.
pub mod Flash
pub mod Changes
