pub mod Language
pub mod Pattern
pub mod NamePart
pub mod Steps
pub mod Telling
pub mod NumberPart
pub mod NumberSteps
pub mod Unique
