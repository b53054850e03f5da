pub mod Fitted
pub mod Laws
