pub mod BoreK
pub mod Started
pub mod Table
