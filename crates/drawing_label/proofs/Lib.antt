pub mod Words
pub mod Fields
pub mod Labels
pub mod Parts
pub mod Unique
