pub mod InputWords
pub mod WordLines
