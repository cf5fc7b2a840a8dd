-- What is written so far.
use Rattle.std.proofs.Common.{◌≡◌, ◌<◌, ℕ, length, option_map}
use Rattle.std.specs.List.{slice_get}
use Rattle.crate_items.specs.Opened.{opened_byte}
use Rattle.crate_items.proofs.opened.open_calls.Given as goal

abbrev pub invariant-loop-i : goal.invariant-loop-i
invariant-loop-i l =
    (length l.out.items ≡ l.i)
    × ((j : ℕ) → j < l.i → slice_get l.out.items j
    ≡ option_map (opened_byte l.calls l.kept j) (slice_get l.text j))
