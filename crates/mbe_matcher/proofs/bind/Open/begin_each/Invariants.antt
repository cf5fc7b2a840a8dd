-- The remaining iterations give what all gave at first.
use Rattle.std.proofs.Common.{◌≡◌, ℕ, List, ◌∷◌}
use Rattle.tt_data.specs.Forest.{size}
use Rattle.mbe_matcher.specs.Bindings.{Map}
use Rattle.mbe_matcher.specs.Bound.{map_of}
use Rattle.mbe_matcher.specs.Collecting.{Collecting, open_of, after_all}
use Rattle.mbe_matcher.specs.Threads.{rounds_of}
use Rattle.mbe_matcher.proofs.bind.Open.begin_each.Given as goal

abbrev pub invariant-loop-rest : goal.invariant-loop-rest
invariant-loop-rest l = (os : List (Map × ℕ)) →
    ◌≡◌ {A = Collecting} (after_all (rounds_of l.name l.kind l.rest) (map_of l.round, open_of l.self ∷ os))
    (after_all (rounds_of l.initial.name l.initial.kind l.initial.rest) (map_of l.initial.round, open_of l.initial.self ∷ os))

abbrev pub decreases-loop-rest : goal.decreases-loop-rest
decreases-loop-rest l = size l.rest
