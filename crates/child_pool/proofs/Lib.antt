pub mod Replies
pub mod Going
pub mod Slots
pub mod Lines
pub mod Prompts
pub mod Asking
pub mod Cutting
pub mod Trying
pub mod Telling
pub mod Stagings
pub mod Attempts
pub mod Prepared
pub mod Talking
pub mod Refusals
pub mod Readied
pub mod Parts
pub mod ValueReplies
pub mod RowReplies
pub mod Mapped
pub mod Widened
pub mod WiderTalk
pub mod Reduced
pub mod Batches
pub mod Pooled
pub mod Resets
pub mod Updated
pub mod Firsts
pub mod Nexts
pub mod Remembered
pub mod Honesty
mod Talks
mod Spent
pub mod ChildSums
mod Tried
mod Folds
mod Joining
mod ViewJoins
pub mod Whole
