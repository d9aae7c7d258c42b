pub mod Laws
pub mod Given
pub mod Unique
