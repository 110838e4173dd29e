-- The laws of the definitions, each in the module of the definition that it is about.
pub mod Playing
pub mod Pages
pub mod Order
pub mod PageOf
pub mod Over
pub mod Cut
pub mod Again
pub mod Unprepared
pub mod ByReplies
pub mod Examples
