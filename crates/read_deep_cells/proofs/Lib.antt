pub mod Ordered
pub mod Slots
pub mod Turn
pub mod Deep
pub mod Keys
pub mod Answer
