use Rattle.std.proofs.Common.{◌≡◌, ◌++◌, drop}
use Rattle.crate_picks.specs.Seen.{numbers}
use Rattle.crate_picks.proofs.file_picks.numbers.Given as goal

abbrev pub invariant-loop-one : goal.invariant-loop-one
invariant-loop-one l = l.all.items ++ numbers (drop l.one-index l.picks) ≡ numbers l.picks
