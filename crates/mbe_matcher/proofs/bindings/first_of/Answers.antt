-- An empty list gets the value at its end.
use Rattle.std.proofs.Common.{◌∙◌, ap, Some}
use Rattle.mbe_matcher.specs.Bindings.{rounds, with_round}
use Rattle.mbe_matcher.specs.Bound.{values_of, standing_for}
use Rattle.mbe_matcher.proofs.BoundLemmas.{standing-Rounds}
use Rattle.mbe_matcher.proofs.bindings.first_of.Goals as goal

pub returns : goal.returns
returns c =
    c.in_ok-binding.ensures
    ∙ ap (λ b. with_round c.args.round.now (standing_for c.args.value) (Some b)) (standing-Rounds c.new.result ∙ ap (λ xs. rounds (values_of xs)) c.new.ensures.items)
