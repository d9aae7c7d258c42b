pub mod Undrawing
pub mod inner
