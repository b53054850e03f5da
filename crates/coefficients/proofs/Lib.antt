pub mod Held
pub mod Made
