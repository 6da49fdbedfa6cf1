pub mod Summed
pub mod Through
