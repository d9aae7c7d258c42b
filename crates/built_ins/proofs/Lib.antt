pub mod BuiltIns
pub mod BuiltText
pub mod Unique
