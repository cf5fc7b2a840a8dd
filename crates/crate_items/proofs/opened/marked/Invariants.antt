-- What is marked by the ranges so far.
use Rattle.std.proofs.Common.{◌≡◌, ◌<◌, ℕ, Some, length, take}
use Rattle.std.specs.List.{slice_get}
use Rattle.crate_items.specs.Opened.{is_in_any}
use Rattle.crate_items.proofs.opened.marked.Given as goal

abbrev pub invariant-loop-range : goal.invariant-loop-range
invariant-loop-range l =
    (length l.marks.items ≡ l.count)
    × ((i : ℕ) → i < l.count →
    slice_get l.marks.items i ≡ Some (is_in_any (take l.range-index l.ranges) i))
