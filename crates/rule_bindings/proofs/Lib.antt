pub mod NoteLemmas
pub mod NoteRows
pub mod OpenLemmas
pub mod RuleLemmas
pub mod UnequalLemmas
pub mod WalkLemmas
pub mod Rows
