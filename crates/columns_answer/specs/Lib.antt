pub mod Copies
pub mod Maps
