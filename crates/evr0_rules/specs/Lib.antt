pub mod There
pub mod Maps
