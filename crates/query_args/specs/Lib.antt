pub mod Parameters
pub mod Faults
pub mod Query
pub mod Range
