-- For the code: nothing here needs to be believed. The head of each module names the law that joins it to the
-- definitions.
pub mod Firsts
pub mod Write
