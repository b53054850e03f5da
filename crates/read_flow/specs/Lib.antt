pub mod Ends
pub mod Turned
pub mod Laws
