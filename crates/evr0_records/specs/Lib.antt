pub mod Maps
pub mod Checks
pub mod Ruled
