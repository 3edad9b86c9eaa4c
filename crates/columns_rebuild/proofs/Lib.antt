pub mod FirstLaws
pub mod ColumnLaws
pub mod RowLaws
pub mod TookLaws
pub mod HeadLaws
