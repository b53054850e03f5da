pub mod Limiting
pub mod Reason
pub mod Slots
