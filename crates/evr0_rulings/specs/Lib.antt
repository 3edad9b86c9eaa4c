pub mod Held
pub mod Told
pub mod Stated
pub mod Maps
