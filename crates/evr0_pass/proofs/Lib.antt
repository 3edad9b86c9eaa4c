pub mod ViewLaws
pub mod StepLaws
pub mod ViewOf
pub mod DeriveLaws
