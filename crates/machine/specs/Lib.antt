pub mod Outcome
pub mod Shim
pub mod Rows
pub mod Generated
pub mod Spoken
pub mod Counted
pub mod inner
