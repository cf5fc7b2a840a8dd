use Rattle.std.proofs.Common.{◌≤◌, ℕ}
use Rattle.token_bytes.specs.Items.{items}
use Rattle.token_bytes.specs.Lists.{IsTreeOf}
use Rattle.token_bytes.proofs.tokens.Tokens.list_around.Given as goal

-- the list begins no later than where the search is
abbrev pub invariant-loop-upto : goal.invariant-loop-upto
invariant-loop-upto l = (l.upto ≤ l.head) × ((start : ℕ) → IsTreeOf (items l.self) l.head start → start ≤ l.upto)

abbrev pub decreases-loop-upto : goal.decreases-loop-upto
decreases-loop-upto l = l.upto
