pub mod Asked
pub mod ClosedInstants
pub mod Heard
pub mod History
pub mod KeptEvents
pub mod Relays
