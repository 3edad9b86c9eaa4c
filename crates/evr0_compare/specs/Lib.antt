pub mod Compare
pub mod Merge
