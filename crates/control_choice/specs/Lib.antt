pub mod Choice
pub mod Chooses
