pub mod Bounded
pub mod Runs
pub mod Time
