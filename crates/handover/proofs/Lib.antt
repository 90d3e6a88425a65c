pub mod CallByCall
pub mod ItemByItem
pub mod EventByEvent
pub mod Verdicts
