-- The rule that was found has the style, or none so far has it.
use Rattle.std.proofs.Common.{option_map}
use Rattle.mbe.proofs.UnfitLemmas.{FoundUpTo}
use Rattle.mbe.proofs.recovery.nearest.Given as goal

abbrev pub invariant-loop-index : goal.invariant-loop-index
invariant-loop-index g l = FoundUpTo l.style l.rules l.index (option_map (λ c. c.index) l.best)
