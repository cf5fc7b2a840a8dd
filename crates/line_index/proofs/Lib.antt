pub mod StepLemmas
pub mod EndLemmas
pub mod PositionLemmas
mod Rows
