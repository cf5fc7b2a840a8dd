pub mod EqualityLemmas
pub mod FlatLemmas
pub mod ForestLemmas
pub mod LiteralLemmas
mod Rows
pub mod WalkLemmas
