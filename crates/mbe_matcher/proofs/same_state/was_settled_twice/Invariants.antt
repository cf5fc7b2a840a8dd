use Rattle.std.proofs.Common.{◌≡◌, ◌&&◌, drop}
use Rattle.std.specs.List.{list_any}
use Rattle.mbe_matcher.specs.Threads.{same_state}
use Rattle.mbe_matcher.proofs.same_state.was_settled_twice.Given as goal

abbrev pub invariant-loop-one : goal.invariant-loop-one
invariant-loop-one l =
    list_any (λ x. x.twice && same_state x.thread l.thread) l.seen
    ≡ list_any (λ x. x.twice && same_state x.thread l.thread) (drop l.one-index l.seen)
