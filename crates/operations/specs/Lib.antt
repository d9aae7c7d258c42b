pub mod Operation
pub mod Alphabet
