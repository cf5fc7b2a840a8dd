use Rattle.std.proofs.Common.{sym, ◌∙◌}
use Rattle.mbe_rules.proofs.EqualityLemmas.{plain}
use Rattle.mbe_rules.proofs.equality.OpPartialEq.eq.Goals as goal

pub returns-in-None : goal.returns-in-None
returns-in-None c =
    plain c.args.self.now c.args.other.now c.inside-2.result.now _ (c.memory_of.ensures c.in-None.is)
    (sym c.if-not-same_head.false ∙ c.same_head.ensures) c.inside-2.ensures.same c.is_empty.ensures
