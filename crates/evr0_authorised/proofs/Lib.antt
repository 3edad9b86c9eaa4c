pub mod OperatesLaws
pub mod AuthorisedLaws
pub mod Stated
pub mod Neighbours
