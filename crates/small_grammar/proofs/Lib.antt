mod UnitLemmas
mod WordLemmas
pub mod NameLemmas
mod TakingLemmas
mod ChoiceLemmas
mod OperatorLemmas
mod TypeLemmas
mod LevelLemmas
mod PatternLemmas
mod OutcomeLemmas
pub mod Rows
