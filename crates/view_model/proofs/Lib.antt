pub mod Lists
pub mod Histories
pub mod SortedRows
pub mod Updates
pub mod Firsts
pub mod Distinct
pub mod Free
pub mod Pictures
pub mod Columns
pub mod Since
pub mod Batches
pub mod Standing
pub mod Strict
pub mod Shapes
pub mod Apart
pub mod Designs
mod Falling
mod Ends
mod Prefixes
mod Printed
mod RunParts
pub mod RunGroups
mod GroupTexts
pub mod GroupAnswers
pub mod NoGroups
pub mod OneAnswer
mod PlainAnswers
pub mod Pieces
pub mod Lines
mod AnswerLines
