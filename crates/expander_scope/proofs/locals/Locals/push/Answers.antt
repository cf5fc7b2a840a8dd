use Rattle.std.proofs.Common.{subst, sym}
use Rattle.std.specs.Prelude.{All}
use Rattle.std.specs.Rc.{rc_value}
use Rattle.std.proofs.lemmas.List.Elements.{All-cons}
use Rattle.std.proofs.lemmas.Result.{on_ok_weaker}
use Rattle.expander_scope.specs.Editions.{IsRead}
use Rattle.expander_scope.specs.NameStacks.{entries_of}
use Rattle.expander_scope.proofs.locals.Locals.push.Goals as goal

pub returns-clause-read : goal.returns-clause-read
returns-clause-read c =
    on_ok_weaker c.push.result (λ are. λ edition is_read read.
    subst (All (λ e. IsRead edition (rc_value e.1))) (sym are)
    (All-cons (λ e. IsRead edition (rc_value e.1)) (c.in-Ok.name, c.args.known) (entries_of c.args.self.now.names) is_read read)) c.push.ensures.ok
