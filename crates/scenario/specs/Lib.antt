pub mod Scenario
pub mod Accepts
