pub mod Ahead
pub mod ByMoves
pub mod Counting
pub mod Judging
pub mod Longest
pub mod Running
pub mod Unique
pub mod Ending
