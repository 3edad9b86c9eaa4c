pub mod Entry
pub mod Place
pub mod Asked
pub mod Ask
pub mod Listing
pub mod Numbered
pub mod Maps
