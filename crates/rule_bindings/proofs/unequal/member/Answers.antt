use Rattle.std.proofs.Common.{sym, arith}
use Rattle.mbe_transcriber.proofs.UsesLemmas.{value-at, value-past}
use Rattle.rule_bindings.proofs.unequal.member.Goals as goal

pub returns-then-number-values : goal.returns-then-number-values
returns-then-number-values c =
    sym (value-at c.args.values.now c.args.number _ (omega arith) c.index-values-number.is)

pub returns : goal.returns
returns c = sym (value-past c.args.values.now c.args.number (omega arith))
