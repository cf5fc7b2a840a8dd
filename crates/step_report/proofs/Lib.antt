pub mod BoundLemmas
-- lemmas by subject
mod AnswerLemmas
mod AskedLemmas
mod FloatLemmas
mod ListLemmas
mod SpanLemmas
mod TraceLemmas
