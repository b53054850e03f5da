pub mod Step
pub mod Steps
pub mod Ready
pub mod Laws
