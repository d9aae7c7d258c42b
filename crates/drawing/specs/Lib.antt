pub mod Drawing
pub mod Calls
