pub mod FlowTurned
pub mod Laws
pub mod Order
