pub mod NameLaws
pub mod OrderLaws
pub mod RestLaws
pub mod RuledLaws
