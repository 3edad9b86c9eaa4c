pub mod Read
pub mod Meet
pub mod Release
pub mod Maps
