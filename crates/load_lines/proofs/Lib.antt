pub mod Each
pub mod Ids
pub mod Lists
pub mod Revisions
pub mod Rooms
pub mod Terms
pub mod Writable
