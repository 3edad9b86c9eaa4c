pub mod Kin
pub mod Rounds
pub mod Aside
pub mod Methods
pub mod InPlace
pub mod Loops
pub mod ByRounds
pub mod Sample
