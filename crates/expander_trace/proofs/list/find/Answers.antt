use Rattle.std.proofs.Common.{subst, sym}
use Rattle.expander_scope.specs.Editions.{IsRead}
use Rattle.expander_trace.proofs.list.find.Goals as goal

pub returns-in_ok-clone-in-Some-clause-rules : goal.returns-in_ok-clone-in-Some-clause-rules
returns-in_ok-clone-in-Some-clause-rules g c =
    subst (IsRead c.args.by.now.scope.now.edition) (sym c.in_ok-clone-in-Some.ensures.cases) c.in-Some.ensures.rules
