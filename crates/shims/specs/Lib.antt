pub mod Models
pub mod Opening
