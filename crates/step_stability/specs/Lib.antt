pub mod Stability
pub mod Laws
