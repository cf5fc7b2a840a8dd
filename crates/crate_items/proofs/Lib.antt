-- lemmas by subject; the worked examples
pub mod AttributeLemmas
pub mod ItemLemmas
pub mod ImportLemmas
pub mod OpenedLemmas
mod Rows
