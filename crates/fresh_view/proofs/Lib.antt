mod Places
mod Changes
pub mod TheViews
