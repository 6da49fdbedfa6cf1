pub mod Commanded
pub mod Read
pub mod RowCounts
