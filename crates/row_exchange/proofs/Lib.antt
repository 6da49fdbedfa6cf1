pub mod Emitted
pub mod Each
pub mod NewRows
pub mod Updating
