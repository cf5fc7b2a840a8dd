mod TableLemmas
mod StepLemmas
mod ClassLemmas
mod StartLemmas
mod OutcomeLemmas
mod FrameLemmas
mod TurnLemmas
mod Rows
