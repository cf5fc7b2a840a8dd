-- lemmas by subject; the worked examples
mod ApartLemmas
mod LookaheadLemmas
pub mod PieceReadingLemmas
pub mod RelativePieceLemmas
mod SegmentLemmas
mod MadeLemmas
mod SegmentBuilderLemmas
pub mod ListLemmas
mod RecentPieceLemmas
