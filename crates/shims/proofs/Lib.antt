pub mod Calls
pub mod Fences
pub mod Theorems
pub mod Unique
