pub mod Standing
pub mod Unique
