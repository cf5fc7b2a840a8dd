pub mod PartLemmas
pub mod EscapeLemmas
pub mod SafeLemmas
pub mod SourceLemmas
pub mod ExpansionLemmas
pub mod PageRows
pub mod PageLemmas
pub mod IsolatedLemmas
