-- What the proofs of this crate and of those above say of a place (Standing). A reader need not believe it.
pub mod Standing
