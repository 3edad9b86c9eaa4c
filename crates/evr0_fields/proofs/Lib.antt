pub mod PartLaws
pub mod PlaceLaws
