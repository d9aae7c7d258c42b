mod Following
pub mod NodeLines
pub mod Unique
