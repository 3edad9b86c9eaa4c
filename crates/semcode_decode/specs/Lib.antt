pub mod Block
pub mod Layout
pub mod Begun
pub mod Number
pub mod Maps
