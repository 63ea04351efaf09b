pub mod Letters
pub mod Messages
pub mod Lines
