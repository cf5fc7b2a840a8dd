mod FirstLemmas
mod Rows
