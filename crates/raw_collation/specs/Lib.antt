pub mod Collation
pub mod Sorting
pub mod Laws
pub mod Groups
