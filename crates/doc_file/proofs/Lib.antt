mod Revisions
mod Wholes
mod Lasts
mod Entries
mod EntryParts
mod Bodies
mod CountsKept
mod Carried
mod Setting
mod Rises
pub mod Histories
mod Standing
pub mod Sizes
mod Changed
mod Left
mod Contents
mod StoredAs
pub mod Stores
mod Storing
mod Written
pub mod NotOfFile
mod Storable
mod Nexts
pub mod Pages
mod Since
mod Progress
pub mod Lives
mod Known
mod DesignIds
mod Tallies
pub mod CanBeStored
pub mod RevisionLines
