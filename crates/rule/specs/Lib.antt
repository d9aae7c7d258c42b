pub mod Stream
pub mod Pairs
pub mod Rule
pub mod Situation
pub mod Sides
