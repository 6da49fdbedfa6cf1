pub mod ChangedSoFar
pub mod RowsSoFar
pub mod LastWrites
pub mod OnlyReading
pub mod ReadSoFar
pub mod Fitting
pub mod Pages
pub mod PageByPage
