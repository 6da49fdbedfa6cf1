pub mod PartSums
pub mod BuiltinTexts
pub mod ViewTexts
