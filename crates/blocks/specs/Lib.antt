pub mod Checksum
pub mod Wrong
