use Rattle.std.proofs.Common.{◌≡◌, ◌∷◌, [], ◌++◌, drop}
use Rattle.std.specs.Prelude.{filter, flat_map}
use Rattle.expander_sources.specs.Picks.{picked}
use Rattle.crate_picks.specs.SourcePicks.{is_open, open_picks}
use Rattle.crate_picks.proofs.source_picks.push_open.Given as goal

abbrev pub invariant-loop-i : goal.invariant-loop-i
invariant-loop-i l =
    l.prelude ++ flat_map (λ i. picked l.source.home i.piece ∷ []) (filter is_open (drop l.i l.source.items)) ≡ l.fn.prelude ++ open_picks l.source
