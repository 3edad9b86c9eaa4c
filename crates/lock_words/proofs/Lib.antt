pub mod WordLaws
pub mod PlaceLaws
pub mod SourceLaws
