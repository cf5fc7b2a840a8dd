use Rattle.std.proofs.Common.{◌≡◌, ◌++◌, map, take, drop}
use Rattle.tt.specs.BuilderTokens.{moved_back}
use Rattle.tt.proofs.top_subtree.builder.move_back.Given as goal

-- those passed have moved
abbrev pub invariant-loop-opening : goal.invariant-loop-opening
invariant-loop-opening l =
    l.opening-items ≡ map (moved_back l.removed.count) (take l.opening-index l.fn.openings.items) ++ drop l.opening-index l.fn.openings.items
