pub mod Runs
pub mod Rules
pub mod Legal
pub mod Letters
pub mod Texts
pub mod Model
pub mod Theorems
