pub mod Flows
pub mod Terms
pub mod Worked
