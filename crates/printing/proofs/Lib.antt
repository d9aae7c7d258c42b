pub mod Decimals
pub mod Names
pub mod Copying
pub mod Putting
pub mod Turns
pub mod Unique
