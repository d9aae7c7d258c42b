pub mod EdgeRows
pub mod EdgeLines
pub mod Whole
pub mod Theorems
pub mod Reading
pub mod Unique
