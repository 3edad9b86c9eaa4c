pub mod Words
pub mod Front
pub mod Maps
pub mod Blocks
pub mod BlockMaps
