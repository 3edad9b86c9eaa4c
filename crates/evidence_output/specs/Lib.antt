pub mod Decimal
pub mod Written
pub mod Output
pub mod Listed
