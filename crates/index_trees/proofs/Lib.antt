mod Members
mod ItemOrder
pub mod Sequences
pub mod ViewSums
mod Replacing
mod EditSteps
mod BackSteps
mod RowPlaces
mod RowsApart
mod RowsNamed
mod RowsExchanged
mod PlacesExchanged
mod BackExchanged
mod OldPlaces
mod Inserted
mod Found
mod OneEdit
mod Got
mod EditedView
pub mod EditedViews
mod EditedBack
mod Exchanged
pub mod ReadBack
pub mod Holding
pub mod NoTrees
mod Batches
