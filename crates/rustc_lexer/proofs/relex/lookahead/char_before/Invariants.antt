use Rattle.std.proofs.Common.{◌≤◌, ◌<◌, ℕ, IsCharBoundary}
use Rattle.rustc_lexer.proofs.relex.lookahead.char_before.Given as goal

abbrev pub invariant-loop-at : goal.invariant-loop-at
invariant-loop-at l = record {
  before : l.at ≤ l.start;
  none : (i : ℕ) → l.at ≤ i → i < l.start → IsCharBoundary l.text i → ⊥;
}

abbrev pub decreases-loop-at : goal.decreases-loop-at
decreases-loop-at l = l.at
