-- lemmas by subject; the worked examples
mod PartLemmas
mod StepLemmas
mod WalkLemmas
mod WordLemmas
mod AttemptLemmas
mod CallStepLemmas
mod NamedLemmas
mod LawLemmas
mod TextLemmas
mod Rows
