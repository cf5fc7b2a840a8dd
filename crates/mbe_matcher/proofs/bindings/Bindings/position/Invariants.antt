-- The name is among the remaining entries, or nowhere.
use Rattle.mbe_matcher.proofs.BoundLemmas.{IsFrom}
use Rattle.mbe_matcher.proofs.bindings.Bindings.position.Given as goal

abbrev pub invariant-loop-i : goal.invariant-loop-i
invariant-loop-i l = IsFrom l.name l.bound-items l.i
