use Rattle.mbe_matcher.specs.SeenStates.{is_like, number_of_state}
use Rattle.mbe_matcher.proofs.StateIndexLemmas.{IsAt}
use Rattle.mbe_matcher.proofs.seen_states.StateIndex.finds.Given as goal

abbrev pub invariant-loop-count : goal.invariant-loop-count
invariant-loop-count l = IsAt (is_like l.twice l.thread) (λ x. number_of_state x.thread) (number_of_state l.thread) l.seen l.count

abbrev pub decreases-loop-count : goal.decreases-loop-count
decreases-loop-count l = l.count
