pub mod ShownLemmas
pub mod LineLemmas
pub mod Rows
