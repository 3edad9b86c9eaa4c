pub mod FrameLaws
pub mod SectionLaws
pub mod AnswerLaws
pub mod CheckLaws
pub mod DecodeLaws
pub mod Neighbours
