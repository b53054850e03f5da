pub mod Slots
pub mod Depths
pub mod Drawdowns
pub mod Screen
