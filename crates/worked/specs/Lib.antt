pub mod SummaryText
pub mod Examples
pub mod Worked
