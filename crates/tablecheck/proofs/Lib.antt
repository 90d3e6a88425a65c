pub mod Lines
pub mod Explaining
