-- For the code: nothing here needs to be believed. The head of each module says which law joins it to the
-- definitions.
pub mod Stretch
pub mod Found
