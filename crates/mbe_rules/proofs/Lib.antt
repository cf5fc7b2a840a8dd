pub mod RelabelLemmas
pub mod ParsingLemmas
pub mod OpsLemmas
pub mod CountLemmas
pub mod WalkLemmas
pub mod CloneLemmas
pub mod EqualityLemmas
pub mod ErrorLemmas
pub mod ExpressionLemmas
pub mod EditionLemmas
pub mod GluedLemmas
pub mod DollarLemmas
pub mod ItemLemmas
pub mod ListLemmas
pub mod RuleLemmas
pub mod DefinitionLemmas
pub mod Written
mod Rows
mod ErrorRows
