pub mod Numbers
pub mod Documents
pub mod Lines
