pub mod BuiltIns
pub mod inner
