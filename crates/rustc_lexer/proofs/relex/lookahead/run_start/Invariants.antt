use Rattle.std.proofs.Common.{◌≡◌, ◌≤◌, ◌<◌, ℕ, get_or, true}
use Rattle.rustc_lexer.specs.Character.{is}
use Rattle.rustc_lexer.proofs.relex.lookahead.run_start.Given as goal

abbrev pub invariant-loop-run : goal.invariant-loop-run
invariant-loop-run l = record {
  before : l.run ≤ l.last;
  hashed : (i : ℕ) → l.run ≤ i → i < l.last → is "#" (get_or l.text i 0) ≡ true;
}

abbrev pub decreases-loop-run : goal.decreases-loop-run
decreases-loop-run l = l.run
