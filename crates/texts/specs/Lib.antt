pub mod Step
pub mod Language
pub mod Pattern
pub mod NamePart
pub mod NumberPart
pub mod Telling
