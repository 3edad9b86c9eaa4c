pub mod HeadLaws
pub mod FunctionLaws
pub mod CoverLaws
pub mod TurnLaws
pub mod LoopLaws
pub mod FileLaws
pub mod Listing
pub mod NumberLaws
