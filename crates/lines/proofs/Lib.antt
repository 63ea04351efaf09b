pub mod Bodies
pub mod Written
pub mod Same
pub mod Whole
pub mod Opens
pub mod Lengths
