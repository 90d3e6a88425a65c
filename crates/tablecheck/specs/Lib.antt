pub mod Report
pub mod Explained
