pub mod Coefficients
pub mod Laws
