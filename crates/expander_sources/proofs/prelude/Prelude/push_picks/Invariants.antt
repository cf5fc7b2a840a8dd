use Rattle.std.proofs.Common.{◌≡◌, ◌++◌, drop, length, take}
use Rattle.std.specs.Prelude.{filter_map}
use Rattle.expander_sources.specs.Picks.{rooted_pick}
use Rattle.expander_sources.proofs.prelude.Prelude.push_picks.Given as goal

abbrev pub invariant-loop-item : goal.invariant-loop-item
invariant-loop-item l =
    (l.self ++ filter_map (rooted_pick l.root.root l.home) (drop l.item-index l.items) ≡ l.initial.self ++ filter_map (rooted_pick l.root.root l.home) l.items)
    × (take (length l.initial.self) l.self ≡ l.initial.self)
