-- What serves the crate's private functions and their proofs alone, and what a call has done that gives something (Accepted), which `demands` says to
-- readers. A reader need not believe it.
pub mod Finding
pub mod Accepted
