use Rattle.std.proofs.Common.{◌≡◌, ◌++◌, drop}
use Rattle.std.specs.Prelude.{flat_map}
use Rattle.filgordd_c.specs.Sources.{open_pick}
use Rattle.filgordd_c.proofs.sources.push_all.Given as goal

abbrev pub invariant-loop-i : goal.invariant-loop-i
invariant-loop-i l =
    l.prelude ++ flat_map (open_pick l.source.home) (drop l.i l.source.items)
    ≡ l.initial.prelude ++ flat_map (open_pick l.source.home) l.source.items
