pub mod AnyImage
pub mod Steps
pub mod Runs
pub mod Endings
pub mod Theorems
pub mod Unique
