-- For the code: nothing here needs to be believed.
pub mod Answered
