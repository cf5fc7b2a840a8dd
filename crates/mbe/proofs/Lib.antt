mod Rows
pub mod FitLemmas
pub mod OutputLemmas
pub mod FailureTaskLemmas
mod LeftLemmas
pub mod FirstFitLemmas
pub mod KeyLemmas
pub mod MacroLemmas
pub mod UnfitLemmas
pub mod PartialLemmas
pub mod NoReadingLemmas
