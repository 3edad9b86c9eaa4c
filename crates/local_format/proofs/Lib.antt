pub mod OutLaws
pub mod Each
pub mod FieldLaws
pub mod TagLaws
pub mod TextLaws
pub mod NumberLaws
pub mod CharacterLaws
