pub mod Committing
pub mod Found
pub mod Getting
pub mod Putting
pub mod Storing
