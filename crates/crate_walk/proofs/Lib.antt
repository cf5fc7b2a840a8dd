-- lemmas by subject; the worked examples
pub mod FolderLemmas
pub mod TableLemmas
pub mod WalkLemmas
pub mod ScopeLemmas
pub mod CountLemmas
pub mod ClosingLemmas
pub mod JoinLemmas
mod Rows
