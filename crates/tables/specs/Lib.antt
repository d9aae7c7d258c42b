pub mod Cells
pub mod Strength
pub mod Table
pub mod inner
