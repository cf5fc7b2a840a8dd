use Rattle.std.proofs.Common.{◌≡◌, ◌++◌, drop}
use Rattle.crate_picks.specs.Picks.{starts}
use Rattle.crate_picks.proofs.definitions.starts.Given as goal

abbrev pub invariant-loop-i : goal.invariant-loop-i
invariant-loop-i l = l.all.items ++ starts (drop l.i l.source.items) ≡ starts l.source.items
