pub mod Taking
pub mod Roots
pub mod Rising
pub mod Places
