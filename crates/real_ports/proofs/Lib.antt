pub mod Searching
pub mod Growing
