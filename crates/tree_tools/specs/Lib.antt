pub mod BeforeLaws
pub mod Noting
pub mod NotingLaws
