-- How situations and states are found: what the generator's private functions and their proofs go by. A reader need not believe it.
pub mod Classes
pub mod Exploring
