pub mod Children
pub mod FileNames
pub mod Printed
pub mod Unread
pub mod Switch
