pub mod Lines
pub mod Endings
pub mod Fits
pub mod Stages
pub mod Determined
pub mod Unique
pub mod Accepting
pub mod Theorems
