pub mod TablesLaws
pub mod KinLaws
pub mod MarkLaws
pub mod FillLaws
pub mod PayloadLaws
pub mod LeavesLaws
