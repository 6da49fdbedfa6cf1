pub mod Each
mod Rolled
pub mod Spoiled
mod Talking
mod Written
pub mod Nexts
mod Mapped
mod Updated
mod Asked
pub mod Follows
