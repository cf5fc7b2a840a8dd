pub mod HeadLemmas
pub mod StreamLemmas
pub mod WrittenLemmas
pub mod Rows
