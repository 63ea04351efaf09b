pub mod Numerals
pub mod Cuts
pub mod Forms
pub mod Faults
pub mod Tokens
pub mod Props
pub mod Readers
pub mod Buffers
