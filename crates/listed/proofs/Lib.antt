pub mod Printing
pub mod Longest
pub mod Direct
pub mod Made
pub mod Determined
pub mod Unique
