use Rattle.std.proofs.Common.{◌≡◌, ◌++◌, ℕ, List, length}
use Rattle.std.specs.List.{FoldsTo}
use Rattle.tt.specs.Anchors.{Tells}
use Rattle.tt.specs.Relabelling.{Answers, asked_about}
use Rattle.tt.proofs.top_subtree.relabel.answered.Given as goal

-- the entries so far are what was asked, and the table has them
abbrev pub invariant-loop-anchor : goal.invariant-loop-anchor
invariant-loop-anchor g l =
    goal.F-IsAlwaysCallable g l.f
    × ((entries : List (ℕ × ℕ)) × FoldsTo (Answers g.F.FnMut) l.fn.f entries l.f
    × (asked_about entries ++ l.rest ≡ l.fn.anchors.met.items) × Tells l.fn.anchors.met.items entries l.answers)

abbrev pub decreases-loop-anchor : goal.decreases-loop-anchor
decreases-loop-anchor g l = length l.rest
