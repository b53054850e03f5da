pub mod Repeat
pub mod Laws
