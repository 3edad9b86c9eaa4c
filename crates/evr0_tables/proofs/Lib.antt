pub mod RowLaws
pub mod TableLaws
pub mod ParentLaws
pub mod PayloadLaws
