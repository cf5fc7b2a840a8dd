mod DifferenceLemmas
mod ChangeLemmas
mod PieceLemmas
