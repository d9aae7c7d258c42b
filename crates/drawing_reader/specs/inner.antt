-- What serves the crate's private functions and their proofs alone. A reader need not believe it.
pub mod Rows
pub mod Whole
