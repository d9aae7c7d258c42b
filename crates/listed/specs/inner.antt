-- What serves the crate's private functions and their proofs alone, and the limits of a listing (Limits), which the proofs of `listing` use. A reader
-- need not believe it.
pub mod Limits
pub mod Making
