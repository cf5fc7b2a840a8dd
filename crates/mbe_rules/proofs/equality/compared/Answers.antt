use Rattle.std.proofs.Common.{arith}
use Rattle.std.proofs.lemmas.List.{nil_from_length}
use Rattle.mbe_rules.proofs.EqualityLemmas.{differ}
use Rattle.mbe_rules.proofs.equality.compared.Goals as goal

pub returns-else-is_empty-clause-same : goal.returns-else-is_empty-clause-same
returns-else-is_empty-clause-same c =
    let is_empty = c.is_empty.ensures in
    let no = c.if-is_empty.false in
    differ c.args.pair.first.now c.args.pair.second.now (nil_from_length _ c.in_default.ensures.cases) (grind (arith, is_empty, no))
