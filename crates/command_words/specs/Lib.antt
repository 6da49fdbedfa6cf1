pub mod Commands
pub mod Reader
pub mod Faults
pub mod Laws
