use Rattle.small_grammar.proofs.UnitLemmas.{no-operator}
use Rattle.small_grammar.proofs.units.operator_of.Goals as goal

pub returns-in_default-2 : goal.returns-in_default-2
returns-in_default-2 c = no-operator c.args.puncts.now c.in_default.len_at_least
