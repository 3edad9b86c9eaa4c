pub mod HeldLaws
pub mod DownLaws
pub mod AnswerLaws
pub mod Stated
