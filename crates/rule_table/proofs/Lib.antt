pub mod Load
pub mod Written
pub mod Twice
pub mod Names
pub mod ByTable
