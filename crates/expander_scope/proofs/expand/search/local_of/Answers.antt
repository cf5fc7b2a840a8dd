use Rattle.std.proofs.Common.{subst, sym}
use Rattle.expander_scope.specs.Editions.{IsRead}
use Rattle.expander_scope.proofs.expand.search.local_of.Goals as goal

pub returns-in_ok-clone-in-Some-clause-rules : goal.returns-in_ok-clone-in-Some-clause-rules
returns-in_ok-clone-in-Some-clause-rules c = λ edition read.
    subst (IsRead edition) (sym c.in_ok-clone-in-Some.ensures.cases) (c.in-Some.ensures.rules edition read)
