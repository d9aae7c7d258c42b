pub mod Buffer
pub mod Fields
pub mod Groups
pub mod Printed
