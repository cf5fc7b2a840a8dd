-- The binding is a list.
use Rattle.std.proofs.Common.{◌∙◌, ap}
use Rattle.mbe_matcher.specs.Bound.{standing_for}
use Rattle.mbe_matcher.proofs.BoundLemmas.{standing-Rounds}
use Rattle.mbe_matcher.proofs.bindings.Binding.expect_values.Goals as goal

pub returns : goal.returns
returns c = ap standing_for c.in-Rounds.is ∙ standing-Rounds c.in-Rounds.values
