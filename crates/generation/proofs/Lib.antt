pub mod Stages
pub mod Canonicals
pub mod Determined
pub mod Unique
pub mod Theorems
