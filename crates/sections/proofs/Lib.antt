pub mod Judging
pub mod Places
