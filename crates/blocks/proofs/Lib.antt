pub mod Sums
pub mod Blocks
pub mod Unique
