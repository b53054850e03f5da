pub mod Laws
pub mod Totals
