pub mod StringLaws
pub mod TableLaws
pub mod BlockLaws
pub mod LentLaws
pub mod ReadLaws
pub mod SignatureLaws
pub mod Counted
