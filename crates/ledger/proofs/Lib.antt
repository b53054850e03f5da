pub mod AcceptedSteps
pub mod Records
pub mod Readings
pub mod Told
