pub mod Answers
pub mod DeepestCell
pub mod Foremost
pub mod Judged
pub mod OneAnswer
pub mod Orders
pub mod Reasons
pub mod ShortestPlace
