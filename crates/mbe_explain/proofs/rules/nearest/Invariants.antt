use Rattle.std.proofs.Common.{◌≤◌, length}
use Rattle.std.specs.List.{IsFirstBest}
use Rattle.mbe_explain.specs.Rules.{is_nearer}
use Rattle.mbe_explain.proofs.rules.nearest.Given as goal

abbrev pub invariant-loop-i : goal.invariant-loop-i
invariant-loop-i l = (l.i ≤ length l.told) × IsFirstBest is_nearer l.told l.i l.best
