pub mod Checked
pub mod Losses
