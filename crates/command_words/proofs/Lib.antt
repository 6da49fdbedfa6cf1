mod Rows
mod WordKinds
mod Steps
mod Walks
mod Found
pub mod OneCommand
mod Parsed
mod Refusals
mod Shorts
