use Rattle.std.proofs.Common.{◌≤◌, ◌-◌}
use Rattle.token_bytes.specs.Items.{items}
use Rattle.token_bytes.specs.Marks.{IsPlaceIn}
use Rattle.token_bytes.proofs.AroundLemmas.{IsFound}
use Rattle.token_bytes.proofs.tokens.around.list_between.Given as goal

-- a list that begins no later than where the walk is begins at what was found, or before the walk
abbrev pub invariant-loop-at : goal.invariant-loop-at
invariant-loop-at l = IsPlaceIn l.at (items l.tokens) × (l.fn.from.count ≤ l.at.count) × (l.at.count ≤ l.upto)
    × IsFound (items l.tokens) l.head l.fn.from.count l.at.count l.found

abbrev pub decreases-loop-at : goal.decreases-loop-at
decreases-loop-at l = l.upto - l.at.count
