pub mod HeadLoss
pub mod Slots
