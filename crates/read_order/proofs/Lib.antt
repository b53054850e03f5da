pub mod Exchanged
pub mod Insertion
