pub mod Laws
pub mod Validity
