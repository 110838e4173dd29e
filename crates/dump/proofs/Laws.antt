-- The laws that the loops of the code keep.
pub mod Stretch
pub mod Pages
pub mod Listing
