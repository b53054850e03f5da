pub mod Network
pub mod Grid
pub mod Kept
