-- lemmas by subject; the worked examples
mod HomeLemmas
pub mod SpanLemmas
pub mod OrderLemmas
mod RootingLemmas
mod PartLemmas
mod PickLemmas
mod AddingLemmas
mod ImportPlaceLemmas
mod ImportLemmas
mod ItemLemmas
mod SourceLemmas
mod PushLemmas
mod PreludeLemmas
mod Rows
-- what crates above name too of those below
pub use Rattle.expander_model.proofs.SplittingLemmas
