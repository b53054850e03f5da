pub mod Laws
pub mod Record
