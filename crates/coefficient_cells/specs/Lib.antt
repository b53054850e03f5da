pub mod Cells
pub mod Worked
pub mod Laws
