-- lemmas by subject; the worked examples
mod AttributeLemmas
pub mod SplittingLemmas
pub mod ApartLemmas
pub mod WholeLemmas
mod OrderLemmas
pub mod SortLemmas
mod RelativeSpanLemmas
mod SamePieceLemmas
pub mod PlaceLemmas
pub mod DefinitionPlaceLemmas
pub mod ConditionPlaceLemmas
pub mod EditionLemmas
mod CallAfterLemmas
