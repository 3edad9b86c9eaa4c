pub mod Function
pub mod Cover
pub mod File
pub mod Number
pub mod Turn
pub mod Maps
