pub mod Prefix
pub mod Shape
pub mod Written
