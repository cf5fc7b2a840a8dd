-- lemmas by subject; the worked examples
mod ListLemmas
mod AroundLemmas
mod AnswerLemmas
mod MovedLemmas
mod ScopeLemmas
mod ExpansionLemmas
mod TextLemmas
mod LastLemmas
mod Rows
