pub mod Decimal
pub mod Name
pub mod Printing
pub mod Putting
pub mod Turns
