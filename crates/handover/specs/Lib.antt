pub mod CallLists
pub mod RelayTexts
pub mod Story
pub mod Transcript
