pub mod Utf8
pub mod Encoding
pub mod Scan
pub mod Maps
mod Vectors
