pub mod Rounds
pub mod Height
pub mod ByRounds
pub mod InPlace
pub mod Sample
