pub mod NumberLaws
pub mod AnswerLaws
pub mod ComponentLaws
