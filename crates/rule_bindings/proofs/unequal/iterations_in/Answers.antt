use Rattle.std.proofs.Common.{◌∙◌, ap, option_and_then, option_map, sym}
use Rattle.mbe_matcher.specs.Bound.{standing_for}
use Rattle.mbe_transcriber.specs.Filling.{value_in}
use Rattle.rule_bindings.proofs.UnequalLemmas.{in-list}
use Rattle.rule_bindings.proofs.unequal.iterations_in.Goals as goal

pub loop-here-preserved : goal.loop-here-preserved
loop-here-preserved c =
    let left = c.loop-here.left.now in
    let inner = c.in-Some-split_first.inner.now in
    ap (option_and_then (value_in inner)) c.member-here.ensures
    ∙ sym (in-list c.in-Some.value.now c.in-Rounds.values c.deref.result.now left
    c.in-Some-split_first.number.now inner c.in-Rounds.is c.deref.ensures.value
    c.in-Some-split_first.ensures.cases.0)
    ∙ sym (ap (λ o. option_and_then (value_in left) (option_map (λ b. standing_for b.now) o))
    c.in-Some.is)
    ∙ c.loop-here.invariant
