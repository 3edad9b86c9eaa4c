pub mod Refusal
pub mod Out
pub mod Field
pub mod Text
pub mod Tag
pub mod Maps
pub mod Number
mod Vectors
pub mod Characters
