pub mod View
pub mod Machine
pub mod Calls
pub mod CountView
pub mod Front
pub mod Traces
pub mod Texts
