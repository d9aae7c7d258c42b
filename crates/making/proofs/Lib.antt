pub mod Unique
pub mod Read
