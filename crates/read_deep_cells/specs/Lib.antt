pub mod Codes
pub mod Order
