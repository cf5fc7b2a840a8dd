pub mod ChangeLemmas
pub mod Rows
