-- What serves the crate's private functions and their proofs alone, and what the proofs of `image` and `image_runs` say of an accepted image
-- (Faultless). A reader need not believe it.
pub mod Zeros
pub mod Faultless
