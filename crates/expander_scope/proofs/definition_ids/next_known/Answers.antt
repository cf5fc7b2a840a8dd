use Rattle.std.proofs.Common.{subst, sym}
use Rattle.expander_scope.specs.Editions.{IsRead}
use Rattle.expander_scope.proofs.definition_ids.next_known.Goals as goal

pub returns-in-Ok-clause-read : goal.returns-in-Ok-clause-read
returns-in-Ok-clause-read c = subst (IsRead c.args.edition) (sym c.in-Ok.ensures.ok) c.in_ok-known.ensures.read
