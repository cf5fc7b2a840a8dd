-- lemmas by subject; the worked examples
mod KnownByteLemmas
mod LineLemmas
mod RunLemmas
mod RunRows
mod SpotLemmas
