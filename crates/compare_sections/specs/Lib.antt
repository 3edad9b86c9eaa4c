pub mod Answer
pub mod Parts
pub mod Maps
