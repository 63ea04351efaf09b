pub mod Rows
pub mod Meters
pub mod Pools
pub mod Parts
pub mod Rowed
pub mod PartLaws
pub mod Laws
