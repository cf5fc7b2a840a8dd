-- The value comes last.
use Rattle.std.proofs.Common.{◌∙◌, ap}
use Rattle.mbe_matcher.specs.Bound.{values_of, standing_for}
use Rattle.mbe_matcher.proofs.BoundLemmas.{put-end}
use Rattle.mbe_matcher.proofs.bindings.put_value.Goals as goal

pub returns : goal.returns
returns c =
    ap values_of c.in_ok-push.ensures.items ∙ put-end c.fill_up.new.values.items c.args.value c.args.round.now c.in_ok-fill_up.ensures.filled
    ∙ c.in_ok-fill_up.ensures.same (standing_for c.args.value)
