pub mod Refusals
pub mod Ranges
pub mod Groups
pub mod Rounds
pub mod Records
pub mod Stores
pub mod Histories
