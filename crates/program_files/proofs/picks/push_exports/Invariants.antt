use Rattle.std.proofs.Common.{◌≡◌, ◌∷◌, [], ◌++◌, drop}
use Rattle.std.specs.Prelude.{filter, flat_map}
use Rattle.expander_sources.specs.Picks.{picked}
use Rattle.program_files.specs.Picking.{exports_of, is_exported}
use Rattle.program_files.proofs.picks.push_exports.Given as goal

abbrev pub invariant-loop-i : goal.invariant-loop-i
invariant-loop-i l =
    l.prelude ++ flat_map (λ i. picked l.source.home i.piece ∷ []) (filter is_exported (drop l.i l.source.items))
    ≡ l.fn.prelude ++ exports_of l.source
