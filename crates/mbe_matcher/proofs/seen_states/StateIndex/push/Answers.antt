use Rattle.std.proofs.Common.{◌∙◌, ap, arith, nat_eq, if◌then◌else◌}
use Rattle.mbe_matcher.specs.SeenStates.{last_in}
use Rattle.mbe_matcher.proofs.StateIndexLemmas.{index-more}
use Rattle.mbe_matcher.proofs.seen_states.StateIndex.push.Goals as goal

pub returns : goal.returns
returns c = λ numbers is.
    index-more c.args.self.now _ numbers c.args.number c.in_ok-before.before is
    (λ n. c.in_ok-before.ensures.updates n ∙ ap (λ k. if nat_eq c.args.number n then k else last_in c.args.self.now.last n) (omega (arith, is.count, c.len-count.ensures))) c.in_ok-before.ensures.old c.in_ok-push.ensures.items
