pub mod Progressing
pub mod Ending
pub mod Seeing
