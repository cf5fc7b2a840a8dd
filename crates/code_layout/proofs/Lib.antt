pub mod WordLemmas
pub mod WordRows
