-- A list has the value at its end.
use Rattle.std.proofs.Common.{◌∙◌, sym, ap}
use Rattle.mbe_matcher.specs.Bindings.{rounds, with_round}
use Rattle.std.proofs.Common.{Some}
use Rattle.mbe_matcher.specs.Bound.{standing_for}
use Rattle.mbe_matcher.proofs.BoundLemmas.{standing-Rounds}
use Rattle.mbe_matcher.proofs.bindings.Binding.with_round.Goals as goal

pub returns-in-Rounds : goal.returns-in-Rounds
returns-in-Rounds c =
    standing-Rounds c.put_value.new.values ∙ ap rounds c.in_ok-put_value-in-Rounds.ensures
    ∙ sym (ap (λ b. with_round c.args.round.now (standing_for c.args.value) (Some b)) (ap standing_for c.in-Rounds.is ∙ standing-Rounds c.in-Rounds.values))
