use Rattle.std.proofs.Common.{◌≡◌}
use Rattle.mbe_rules.specs.Lists.{whole, weight}
use Rattle.mbe_rules.specs.Patterns.{items_of}
use Rattle.mbe_rules.specs.Reading.{edition_in, mode_of}
use Rattle.mbe_rules.proofs.parse.items.items.Given as goal

abbrev pub invariant-loop-more : goal.invariant-loop-more
invariant-loop-more l =
    items_of (edition_in l.editions) (mode_of l.mode) l.trees ≡ whole (edition_in l.editions) (mode_of l.mode) l.nest

abbrev pub decreases-loop-more : goal.decreases-loop-more
decreases-loop-more l = weight l.nest
