pub mod Generating
pub mod inner
