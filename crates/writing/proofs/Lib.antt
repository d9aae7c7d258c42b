pub mod Lines
pub mod Short
pub mod RoundTrip
pub mod WrittenBack
pub mod Unique
