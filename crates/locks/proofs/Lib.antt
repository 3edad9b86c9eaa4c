pub mod KeyLaws
pub mod ClaimLaws
pub mod BlockLaws
pub mod CallLaws
