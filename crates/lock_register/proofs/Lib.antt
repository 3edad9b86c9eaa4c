pub mod LockLaws
pub mod ReadLaws
pub mod RootLaws
pub mod MeetLaws
pub mod EightLaws
