use Rattle.std.proofs.Common.{subst, sym}
use Rattle.expander_scope.specs.Editions.{IsRead}
use Rattle.expander_scope.proofs.expand.search.look_up.Goals as goal

pub returns-clause-rules : goal.returns-clause-rules
returns-clause-rules c = subst (IsRead c.args.scope.now.edition) (sym c.in_ok-given.ensures.cases) c.in-Some.ensures.rules
