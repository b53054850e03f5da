pub mod Drawdowns
