use Rattle.std.proofs.Common.{◌≡◌, ◌++◌, drop}
use Rattle.std.specs.Prelude.{flat_map}
use Rattle.filgordd_c.specs.Sources.{behind_root}
use Rattle.filgordd_c.proofs.sources.Sources.behind_roots.Given as goal

abbrev pub invariant-loop-source : goal.invariant-loop-source
invariant-loop-source l = l.prelude ++ flat_map behind_root (drop l.source-index l.self) ≡ flat_map behind_root l.self
