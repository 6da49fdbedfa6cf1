pub mod Fresh
pub mod Programs
pub mod Laws
