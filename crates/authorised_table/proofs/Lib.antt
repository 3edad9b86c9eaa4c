pub mod FlagLaws
pub mod TellsLaws
