pub mod Ran
pub mod Laws
