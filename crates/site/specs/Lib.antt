pub mod Columns
pub mod Laws
pub mod Limited
pub mod Site
