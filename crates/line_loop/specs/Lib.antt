pub mod Given
pub mod Loops
