pub mod ConditionLemmas
pub mod CopyLemmas
pub mod LiveBoxes
mod WordRows
