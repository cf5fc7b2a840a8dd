pub mod NoteLemmas
pub mod RequestLemmas
pub mod SendLemmas
pub mod ServedLemmas
