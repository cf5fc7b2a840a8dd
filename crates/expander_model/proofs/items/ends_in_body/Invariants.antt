use Rattle.std.proofs.Common.{◌≡◌, ◌+◌, ◌<◌, ◌^◌, false}
use Rattle.tt_data.specs.Forest.{size}
use Rattle.expander_model.specs.WholeItems.{ends_in_body}
use Rattle.expander_model.proofs.items.ends_in_body.Given as goal

abbrev pub invariant-loop-leaf : goal.invariant-loop-leaf
invariant-loop-leaf l =
    (ends_in_body 0 false l.trees ≡ ends_in_body l.depth l.arrow l.rest)
    × (l.depth + size l.rest < 2 ^ 63)

abbrev pub decreases-loop-leaf : goal.decreases-loop-leaf
decreases-loop-leaf l = size l.rest
