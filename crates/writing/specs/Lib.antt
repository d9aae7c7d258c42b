pub mod Writing
pub mod Calls
pub mod inner
