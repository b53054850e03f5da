pub mod SameCalls
pub mod SameDrawdowns
