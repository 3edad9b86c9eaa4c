pub mod AutomatonLaws
pub mod StepsLaws
