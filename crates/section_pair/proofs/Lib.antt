pub mod PairLaws
pub mod KeyLaws
pub mod ListLaws
