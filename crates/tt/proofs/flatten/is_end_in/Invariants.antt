use Rattle.std.proofs.Common.{◌≡◌, ◌↔◌}
use Rattle.tt_data.specs.Forest.{IsPreorder, forest_of, size, front}
use Rattle.tt.proofs.flatten.is_end_in.Given as goal

-- a tree ends after so many tokens of all exactly if one ends after what is left of that
abbrev pub invariant-loop-left : goal.invariant-loop-left
invariant-loop-left l =
    IsPreorder l.rest × ((size (front l.left (forest_of l.rest)) ≡ l.left) ↔ (size (front l.fn.count (forest_of l.fn.tts)) ≡ l.fn.count))

abbrev pub decreases-loop-left : goal.decreases-loop-left
decreases-loop-left l = l.left
