-- The lists that are appended change nothing.
use Rattle.std.proofs.Common.{◌∙◌, ap, arith}
use Rattle.mbe_matcher.specs.Bindings.{rounds, value_put}
use Rattle.mbe_matcher.specs.Bound.{values_of}
use Rattle.mbe_matcher.proofs.BoundLemmas.{put-pad, standing-Rounds}
use Rattle.mbe_matcher.proofs.bindings.fill_up.Goals as goal

pub loop-values-preserved : goal.loop-values-preserved
loop-values-preserved c = λ d.
    ap (λ xs. value_put c.args.round.now d (values_of xs)) c.in_ok-push.ensures.items
    ∙ put-pad c.loop-values.values.items _ c.args.round.now d (standing-Rounds _ ∙ ap (λ xs. rounds (values_of xs)) c.new-none.ensures.items)
    (omega (arith, c.is_above.ensures.0 c.loop-values-test.true, c.len.ensures))
    ∙ c.loop-values.invariant d
