pub mod Rows
pub mod Replaced
pub mod Changed
pub mod Laws
