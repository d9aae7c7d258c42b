pub mod Answer
pub mod Buffer
pub mod Given
