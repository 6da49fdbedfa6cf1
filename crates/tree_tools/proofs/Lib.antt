pub mod Faults
pub mod Insertions
