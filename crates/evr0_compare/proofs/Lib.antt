pub mod KeyOrder
pub mod KeysRise
pub mod Compare
pub mod CompareOnly
pub mod CompareSections
pub mod Merge
pub mod Sides
pub mod Examples
