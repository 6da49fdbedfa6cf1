mod Counts
pub mod Words
pub mod Wholes
pub mod Texts
pub mod Spelled
mod Read
mod Places
mod Follows
mod Parts
