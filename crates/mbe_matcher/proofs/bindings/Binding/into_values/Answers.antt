use Rattle.std.proofs.Common.{ap, ◌∙◌}
use Rattle.mbe_matcher.proofs.CountLemmas.{count_one, count-Rounds}
use Rattle.mbe_matcher.proofs.bindings.Binding.into_values.Goals as goal

pub returns-in-Rounds-clause-fewer : goal.returns-in-Rounds-clause-fewer
returns-in-Rounds-clause-fewer c = ap count_one c.in-Rounds.is ∙ count-Rounds c.in-Rounds.values
