pub mod Bytes
pub mod Call
pub mod inner
