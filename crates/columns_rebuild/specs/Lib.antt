pub mod Stand
pub mod Noted
pub mod Took
pub mod Maps
