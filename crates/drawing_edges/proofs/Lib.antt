pub mod Marks
pub mod EdgeParts
pub mod EdgeTexts
pub mod Shapes
pub mod Unique
