-- what a text means, in reading order
pub mod Count
-- what the meaning of a text is built on
pub mod Layered
-- what the contracts of `Session` and `replay`, and the laws, rest on
pub mod State
pub mod Expanded
pub mod TooMany
pub mod Replies
pub mod Answers
pub mod CommandTurns
pub mod Laws
pub mod Agreement
-- what the functions inside the crate promise each other
pub mod Reuse
pub mod TextTurn
pub mod AbsoluteSpans
pub mod Memos
pub mod LookupTrees
pub mod MemoRefs
pub mod Caches
pub mod Evaluating
pub mod EvaluatedTexts
pub mod Emitting
pub mod Shown
pub mod CachedOutputs
-- what crates above name too of those below
pub use Rattle.expander_scope.specs as expander_scope
pub use Rattle.mbe.specs as mbe
pub use Rattle.expander_sources.specs as expander_sources
