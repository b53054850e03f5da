pub mod Calls
pub mod Ledger
pub mod Told
pub mod Promise
pub mod Repeats
