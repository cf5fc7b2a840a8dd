use Rattle.std.proofs.Common.{◌++◌, ◌∙◌, ap, append-nil, map, sym}
use Rattle.expander_scope.specs.LocalTables.{locals_of}
use Rattle.expander_scope.specs.Outcomes.{find_of}
use Rattle.expander_scope.specs.ScopeTable.{scope_in}
use Rattle.expander_scope.proofs.CallResultLemmas.{no_lookup}
use Rattle.expander_scope.proofs.expand.search.resolve.Goals as goal

pub returns-in-Some-clause-known : goal.returns-in-Some-clause-known
returns-in-Some-clause-known g c = (rw c.in-Some.is at c.in_ok-local.ensures.rules) c.args.env.now.scope.now.edition c.requires.locals

pub returns-in-Some-clause-finds : goal.returns-in-Some-clause-finds
returns-in-Some-clause-finds g c =
    sym (append-nil (map find_of c.args.search.now.out.finds.items))
    ∙ ap (λ l. map find_of c.args.search.now.out.finds.items ++ l)
    (sym (no_lookup (scope_in c.args.env.now.scope.now) (locals_of c.args.search.now.locals) c.args.trees.now c.args.call.now _ (rw c.in-Some.is at c.in_ok-local.ensures.found)))
