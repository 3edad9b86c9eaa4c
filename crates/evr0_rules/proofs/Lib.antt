pub mod NameLaws
pub mod RuleLaws
pub mod LoadLaws
pub mod FourLaws
