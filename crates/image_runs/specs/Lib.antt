pub mod Run
pub mod inner
