pub mod Phases
pub mod State
pub mod Record
pub mod Taking
pub mod Answers
pub mod Sound
