pub mod Edits
pub mod ViewValues
pub mod Trees
pub mod Exchanges
pub mod Edited
pub mod Faults
pub mod Reading
pub mod Laws
