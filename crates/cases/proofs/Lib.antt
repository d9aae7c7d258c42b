pub mod Buffers
pub mod Bars
pub mod Unique
pub mod Printed
