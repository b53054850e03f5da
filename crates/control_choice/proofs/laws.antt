pub mod Row
pub mod Highest
pub mod Theorem
