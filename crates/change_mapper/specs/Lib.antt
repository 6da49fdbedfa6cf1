pub mod Changed
pub mod Faults
pub mod Mapped
pub mod Pages
pub mod Written
