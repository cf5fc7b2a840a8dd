-- lemmas by subject; the worked examples
pub mod MarkLemmas
pub mod OutcomeLemmas
pub mod SinkLemmas
pub mod CallLemmas
pub mod HandedLemmas
mod DefinitionLemmas
pub mod TurnLemmas
pub mod HeldLemmas
pub mod DefinitionIdLemmas
pub mod DefinitionTextLemmas
mod ScopeLemmas
mod NameStackLemmas
mod LocalLemmas
mod ListLemmas
mod SpendingLemmas
mod ReplaceLemmas
mod CallResultLemmas
mod GoesLemmas
mod QuietLemmas
mod PieceLemmas
mod AnchoredLemmas
-- what crates above name too of those below
pub use Rattle.textual_scope.proofs.BoundedLemmas
pub use Rattle.textual_scope.proofs.ChangeLemmas
pub use Rattle.textual_scope.proofs.RuleLemmas
