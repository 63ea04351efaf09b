pub mod Same
pub mod Requests
pub mod Entries
