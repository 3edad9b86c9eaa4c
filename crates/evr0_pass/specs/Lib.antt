pub mod View
pub mod Maps
pub mod Tables
