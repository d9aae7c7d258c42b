pub mod Excess
pub mod Laws
pub mod Packed
pub mod Planes
pub mod Strengths
pub mod Unique
