pub mod WrittenLaws
pub mod DecimalLaws
pub mod LineLaws
pub mod Enough
pub mod OffsetLaws
pub mod OutputLength
pub mod ListedLaws
pub mod EvidenceLaws
