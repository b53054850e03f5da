pub mod Largest
pub mod Resting
