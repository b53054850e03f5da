pub mod Listing
pub mod Laws
pub mod Entries
pub mod Printed
