pub mod ReadyLaws
pub mod CopyLaws
pub mod WriteLaws
