pub mod Digits
pub mod Slices
pub mod Parts
pub mod Writes
pub mod Joins
pub mod Apart
