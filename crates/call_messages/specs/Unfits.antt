-- Why no rule fits a call, and what is added about it. (Of this project.)
use Rattle.std.specs.Prelude.{◌≡◌, ℕ, List, ◌++◌, Result, Ok, Err, ok_or, if◌then◌else◌, ⊤}
use Rattle.std.specs.List.{list_any}
use Rattle.source_snippet.specs.Messages.{Part, message}
use Rattle.mbe_explain.specs.declared.rules.Explanation.{Explanation}
use Rattle.call_messages.specs.declared.unfit.Unfit.{Unfit}
use Rattle.call_messages.specs.declared.unfit.Unfit.TheVariants.{Fits, Unknown}

-- the place of the rule that is nearest to a match, where none fits; none if there are no rules
abbrev pub nearest_unfit : Explanation → Result ℕ Unfit
nearest_unfit e =
    if list_any (λ s. s.fits) e.rules.items then Err Fits else ok_or e.nearest Unknown

-- the lines of a message are added, or nothing, and why
abbrev pub AddsIfUnfit : (old new : List ℕ) → Result ⊤ Unfit → Type 0
AddsIfUnfit old new (Ok _) = (parts : List Part) × (new ≡ old ++ message parts)
AddsIfUnfit old new (Err unfit) = new ≡ old
