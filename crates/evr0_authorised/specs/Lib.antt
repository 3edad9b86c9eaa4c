pub mod Authorised
pub mod Maps
