-- The laws of the definitions, each in the module of the definition that it is about.
pub mod Pages
pub mod Position
pub mod Onward
pub mod Advanced
pub mod Range
pub mod Step
pub mod Exchange
pub mod Before
pub mod Left
pub mod Each
pub mod Claims
