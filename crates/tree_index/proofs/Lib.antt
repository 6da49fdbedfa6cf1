pub mod Carried
pub mod Pictures
pub mod Sizes
pub mod Rooms
pub mod Committing
pub mod Opening
pub mod Emptying
pub mod Removing
pub mod Opened
mod RowsWalked
mod RowsFound
pub mod Kept
pub mod Answering
pub mod Replacing
pub mod Blaming
pub mod Costs
pub mod Causes
pub mod ReplacedIn
