pub mod Listed
pub mod Shape
pub mod inner
