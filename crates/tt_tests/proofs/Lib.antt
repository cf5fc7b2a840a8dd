mod WalkLemmas
mod BuildLemmas
mod CursorLemmas
mod Rows
