pub mod Reducible
pub mod Reducing
pub mod Answering
pub mod Honesty
pub mod Mapping
pub mod Keeping
pub mod Ending
