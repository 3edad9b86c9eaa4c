pub mod Records
pub mod Symbol
pub mod Component
pub mod Sizes
pub mod Path
pub mod Maps
pub mod Numbers
