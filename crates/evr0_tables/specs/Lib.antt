pub mod LentTables
pub mod LentMaps
pub mod Maps
pub mod PayloadMaps
