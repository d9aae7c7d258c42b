pub mod Verdict
pub mod inner
