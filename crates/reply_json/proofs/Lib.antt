pub mod ListLemmas
pub mod FloatLemmas
pub mod ExplainedLemmas
pub mod Rows
