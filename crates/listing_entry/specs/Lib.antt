pub mod EntryLine
pub mod Figures
pub mod Laws
pub mod Length
