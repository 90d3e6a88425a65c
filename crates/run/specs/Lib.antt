pub mod InputWords
pub mod Listing
