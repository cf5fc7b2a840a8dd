pub mod ResultLemmas
pub mod MarkLemmas
pub mod AgreementLemmas
pub mod FindsLemmas
pub mod SizeLemmas
pub mod StateLemmas
pub mod ChainLemmas
pub mod PlainLemmas
pub mod KeywordLemmas
pub mod RuleLemmas
pub mod MarkChangeLemmas
pub mod ChangeLemmas
pub mod LeftLemmas
mod Lines
mod Rows
mod ConditionLemmas
mod TextRows
mod ConditionRows
mod LimitLemmas
pub mod NoteLemmas
mod RefusalLemmas
pub mod BoundedLemmas
mod LimitRows
