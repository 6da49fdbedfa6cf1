pub mod Spelling
pub mod SpelledAt
pub mod Reading
