pub mod Pipe
pub mod Asked
pub mod Laws
