pub mod Layers
pub mod Writes
