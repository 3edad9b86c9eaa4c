pub mod SymbolsLaws
pub mod BlockSymbols
pub mod Filled
pub mod PartSymbols
pub mod FileLaws
pub mod Wanted
