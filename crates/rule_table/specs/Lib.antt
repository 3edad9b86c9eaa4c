pub mod Load
pub mod ByTable
