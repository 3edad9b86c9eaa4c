pub mod EntryLaws
pub mod BlockLaws
pub mod SectionLaws
