pub mod Model
pub mod Text
pub mod Form
pub mod Told
pub mod inner
pub mod Reading
