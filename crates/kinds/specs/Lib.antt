pub mod Meters
pub mod Pools
pub mod Grants
