-- Where the modules of a file end in its expansion. (Of this project.)
use Rattle.std.specs.Prelude.{◌≡◌, ℕ, ◌+◌, true, Option, Some, None}
use Rattle.std.specs.List.{slice_get}
use Rattle.bridge.specs.PrintedRanges.{read_ranges}
use Rattle.crate_walk.specs.WholeTexts.{has_semicolon}
use Rattle.crate_walk.specs.declared.event.Event.{Event}
use Rattle.crate_walk.specs.declared.event.Event.TheVariants as event
use Rattle.expander_run.specs.expander_session.Expanded.{Expanded}
use Rattle.tt_data.specs.declared.span.TextRange.{TextRange}

-- the printed token of this index comes from this offset of the text
pub record ComesFrom (e : Expanded) (i start : ℕ) : Type 0 where
  pub text : slice_get e.texts i ≡ Some 0
  pub range : TextRange
  pub origin : slice_get e.origins i ≡ Some range
  pub starts : range.start ≡ start

-- right behind a token that comes from this offset a `;` is printed, at this offset
pub record IsEndBehind (e : Expanded) (start at : ℕ) : Type 0 where
  pub index : ℕ
  pub comes : ComesFrom e index start
  pub range : TextRange
  pub behind : slice_get (read_ranges e.printed) (index + 1) ≡ Some range
  pub starts : range.start ≡ at
  pub semicolon : has_semicolon e.printed at ≡ true

-- where one is, if there is one
abbrev pub IsEnd : Expanded → ℕ → Option ℕ → Type 0
IsEnd e start (Some at) = IsEndBehind e start at
IsEnd e start None = (at : ℕ) → IsEndBehind e start at → ⊥

-- where a module ends is behind its name; other events have no such end
abbrev pub IsEndOf : Expanded → Event → Option ℕ → Type 0
IsEndOf e (event.Outline m) at = IsEnd e m.start at
IsEndOf e other at = at ≡ None
