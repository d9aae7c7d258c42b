pub mod Bytes
pub mod Lowest
pub mod Search
