pub mod Lines
pub mod Passed
