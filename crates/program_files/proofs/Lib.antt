mod EndLemmas
mod ShownLemmas
mod SourceLemmas
