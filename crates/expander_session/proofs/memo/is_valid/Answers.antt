use Rattle.std.proofs.Common.{◌∙◌, ap}
use Rattle.std.specs.List.{list_all}
use Rattle.expander_scope.specs.ScopeTable.{scope_in}
use Rattle.expander_scope.specs.Outcomes.{find_of}
use Rattle.expander_session.specs.Reuse.{same_number}
use Rattle.expander_session.proofs.MemoLemmas.{agrees_mapped}
use Rattle.expander_session.proofs.memo.is_valid.Goals as goal

pub returns : goal.returns
returns c =
    c.agrees.ensures
    ∙ ap (list_all (λ f. same_number (scope_in c.args.scope.now (find_of f).0) (find_of f).1)) c.as_slice.ensures.value
    ∙ agrees_mapped (scope_in c.args.scope.now) c.args.held.now.finds.items
