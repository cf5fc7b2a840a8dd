use Rattle.std.specs.Prelude.{find}
use Rattle.std.specs.Rc.{rc_value}
use Rattle.small_grammar.specs.Text.{same_text}
use Rattle.expander_scope.specs.Editions.{IsRead}
use Rattle.expander_scope.specs.NameStacks.{entries_of}
use Rattle.expander_scope.proofs.LocalLemmas.{copied_has, copied_is, found_has}
use Rattle.expander_scope.proofs.locals.Locals.find.Goals as goal

pub returns-clause-found : goal.returns-clause-found
returns-clause-found c =
    copied_is c.find.result (entries_of c.args.self.now.names) c.args.name.now c.find.ensures c.args.self.now.named c.args.self.now.of_lists

pub returns-clause-rules : goal.returns-clause-rules
returns-clause-rules c = λ edition read.
    copied_has (λ k. IsRead edition (rc_value k)) c.find.result (find (λ e. same_text e.0 c.args.name.now) (entries_of c.args.self.now.names)) c.find.ensures
    (λ e is. found_has (λ x. IsRead edition (rc_value x.1)) (λ x. same_text x.0 c.args.name.now) (entries_of c.args.self.now.names) e read is)
