pub mod Fetched
pub mod Parts
pub mod Prefixes
pub mod Reached
pub mod Sizes
pub mod Structure
pub mod SummerTrees
mod Taking
pub mod NoFields
