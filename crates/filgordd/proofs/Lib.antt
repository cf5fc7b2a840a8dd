mod ConditionLemmas
mod ConditionRows
mod WarningLemmas
