-- Laws of the definitions in specs/: nothing in them is to be believed.
pub mod Ends
pub mod Conserve
pub mod Water
pub mod Totals
pub mod Bounds
pub mod Preserve
pub mod Places
pub mod Cells
pub mod Proper
pub mod Room
