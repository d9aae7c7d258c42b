pub mod Runs
pub mod Order
pub mod Arrivals
pub mod inner
