use Rattle.std.proofs.Common.{◌≡◌, ◌++◌, drop}
use Rattle.std.specs.Prelude.{flat_map}
use Rattle.crate_picks.specs.SourcePicks.{picks_of_source}
use Rattle.program_files.proofs.picks.push_sources.Given as goal

abbrev pub invariant-loop-source : goal.invariant-loop-source
invariant-loop-source l =
    l.prelude ++ flat_map picks_of_source (drop l.source-index l.sources) ≡ l.fn.prelude ++ flat_map picks_of_source l.sources
