pub mod Sets
pub mod WordSets
pub mod StampSets
pub mod Boards
