pub mod Verdicts
pub mod Zeros
pub mod Failing
pub mod Faultless
pub mod Unique
