pub mod RuleLemmas
mod WhyLemmas
pub mod Rows
