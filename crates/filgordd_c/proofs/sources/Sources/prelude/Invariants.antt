use Rattle.std.proofs.Common.{◌≡◌, ◌++◌, drop}
use Rattle.std.specs.Prelude.{flat_map}
use Rattle.filgordd_c.specs.Sources.{picks_code, pieces_of, prelude_of}
use Rattle.filgordd_c.proofs.sources.Sources.prelude.Given as goal

abbrev pub invariant-loop-pick : goal.invariant-loop-pick
invariant-loop-pick l = record {
  pieces : l.prelude ++ flat_map (pieces_of l.self) (drop l.pick-index l.picks) ≡ prelude_of l.self l.picks;
  right : picks_code l.self (drop l.pick-index l.picks) ≡ picks_code l.self l.picks;
}
