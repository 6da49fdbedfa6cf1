pub mod Spelled
pub mod Totals
pub mod Equals
pub mod Steps
pub mod Sorted
pub mod SortedRows
pub mod Runs
pub mod Groups
