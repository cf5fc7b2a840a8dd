use Rattle.std.proofs.Common.{◌≡◌, ◌++◌, drop}
use Rattle.std.specs.Prelude.{flat_map}
use Rattle.program_files.specs.Picking.{exports_of}
use Rattle.program_files.proofs.picks.push_exported.Given as goal

abbrev pub invariant-loop-source : goal.invariant-loop-source
invariant-loop-source l =
    l.prelude ++ flat_map exports_of (drop l.source-index l.sources) ≡ l.fn.prelude ++ flat_map exports_of l.sources
