use Rattle.std.proofs.Common.{◌≡◌, length}
use Rattle.tt.specs.Anchors.{StandForThemselves}
use Rattle.token_bytes.specs.Items.{items}
use Rattle.tt.specs.Relabelling.{anchors_in, met_after}
use Rattle.tt.proofs.top_subtree.relabel.meet_all.Given as goal

-- what was met, and then what is left, is what was there, and then all of it
abbrev pub invariant-tokens : goal.invariant-tokens
invariant-tokens l =
    StandForThemselves l.anchors
    × (met_after l.anchors.met.items (anchors_in (items l.rest)) ≡ met_after l.fn.anchors.met.items (anchors_in (items l.fn.tokens)))

abbrev pub decreases-tokens : goal.decreases-tokens
decreases-tokens l = length (items l.rest)
