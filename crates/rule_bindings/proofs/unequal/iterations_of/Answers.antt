use Rattle.std.proofs.Common.{◌∙◌}
use Rattle.rule_bindings.proofs.UnequalLemmas.{iterations-Rounds}
use Rattle.rule_bindings.proofs.unequal.iterations_of.Goals as goal

pub returns-in-Rounds : goal.returns-in-Rounds
returns-in-Rounds c =
    iterations-Rounds c.args.binding.now c.in-Rounds.values c.len.result c.in-Rounds.is
    (c.len.ensures ∙ c.in-Rounds.values.ok.0)
