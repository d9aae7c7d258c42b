-- What serves the crate's private functions and their proofs alone. A reader need not believe it.
pub mod Index
pub mod Words
pub mod Refine
pub mod Writing
pub mod Sides
pub mod Explore
pub mod Stages
