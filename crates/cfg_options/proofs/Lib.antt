-- lemmas by subject
pub mod PartLemmas
pub mod PredicateLemmas
pub mod OpenListLemmas
pub mod FindingLemmas
pub mod OptionLemmas
pub mod StepLemmas
pub mod StringLemmas
pub mod WordLemmas
mod Rows
