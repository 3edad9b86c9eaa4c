pub mod RecordsLaws
pub mod FrontLaws
pub mod PathLaws
pub mod SizeLaws
pub mod SymbolLaws
