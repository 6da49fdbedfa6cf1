pub mod Documents
pub mod History
pub mod Revision
pub mod Reduces
pub mod Faults
pub mod Design
pub mod Laws
