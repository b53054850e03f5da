pub mod Word
pub mod Lines
pub mod Appended
pub mod Laws
