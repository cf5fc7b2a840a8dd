mod Rows
mod TableLemmas
