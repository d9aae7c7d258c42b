pub mod Truths
pub mod Sameness
pub mod Lowest
pub mod Unique
pub mod Search
