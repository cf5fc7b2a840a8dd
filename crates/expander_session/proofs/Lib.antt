-- lemmas by subject; the worked examples
mod LeftOutLemmas
pub mod PrintingLemmas
mod MemoRefLemmas
pub mod WordLemmas
pub mod AgreementLemmas
pub mod FindsLemmas
pub mod ExpandedLemmas
mod LookupTreeLemmas
pub mod WorldLemmas
pub mod TreeLemmas
pub mod ReadPlaceLemmas
pub mod TextPlaceLemmas
pub mod ReuseLemmas
pub mod TextTurnLemmas
pub mod WholeTurnLemmas
pub mod NumberLemmas
pub mod DefinitionCountLemmas
pub mod KeptLemmas
mod EvaluatedLemmas
mod EvaluatedReplyLemmas
mod ScopePieceLemmas
mod AbsoluteSpanLemmas
mod PartLemmas
mod MemoLemmas
mod CacheLemmas
mod EvaluateLemmas
mod PassLemmas
mod ImportLemmas
mod PassLoopLemmas
mod SessionLemmas
pub mod CommandLemmas
