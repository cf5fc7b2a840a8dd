use Rattle.std.proofs.Common.{◌≡◌, ◌++◌, drop}
use Rattle.std.specs.Prelude.{flat_map}
use Rattle.program_files.specs.Picking.{picks_behind}
use Rattle.program_files.proofs.picks.push_roots.Given as goal

abbrev pub invariant-loop-root : goal.invariant-loop-root
invariant-loop-root l =
    l.prelude ++ flat_map (picks_behind l.sources) (drop l.root-index l.roots) ≡ l.fn.prelude ++ flat_map (picks_behind l.sources) l.roots
