mod CommandLemmas
mod CommandRows
