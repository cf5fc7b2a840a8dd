-- What is marked so far.
use Rattle.std.proofs.Common.{◌≡◌, ◌⊎◌, ℕ, ◌||◌, length, option_map, ◌≤◌}
use Rattle.std.specs.List.{slice_get}
use Rattle.crate_items.specs.Opened.{is_in}
use Rattle.crate_items.proofs.opened.mark.Given as goal

abbrev pub invariant-loop-i : goal.invariant-loop-i
invariant-loop-i l =
    (length l.marks ≡ length l.initial.marks) × ((l.i ≤ l.fn.range.start) ⊎ (l.i ≤ l.end))
    × ((j : ℕ) → slice_get l.marks j
    ≡ option_map (λ m. m || is_in j (record { start = l.fn.range.start; «end» = l.i }))
    (slice_get l.initial.marks j))
