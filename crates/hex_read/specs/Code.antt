-- For the code: nothing here needs to be believed. The head of each module names the law that joins it to the
-- definitions.
pub mod Map
pub mod Walk
pub mod Read
pub mod Fill
