pub mod MarkLaws
pub mod FillLaws
pub mod LeavesLaws
pub mod Neighbours
