use Rattle.std.proofs.Common.{◌≡◌, ◌++◌, drop}
use Rattle.program_files.specs.Picking.{picks_at_side}
use Rattle.program_files.proofs.picks.push_side.Given as goal

abbrev pub invariant-loop-source : goal.invariant-loop-source
invariant-loop-source l =
    l.prelude ++ picks_at_side l.own (drop l.source-index l.sources) l.root ≡ l.fn.prelude ++ picks_at_side l.own l.sources l.root
