pub mod Symbols
pub mod FileSymbols
