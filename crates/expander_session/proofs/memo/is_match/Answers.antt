use Rattle.std.proofs.Common.{◌≡◌, ◌∙◌, Bool, true, ap, sym, rules}
use Rattle.std.specs.Prelude.{◌&&◌}
use Rattle.std.specs.List.{list_all}
use Rattle.expander_scope.specs.ScopeTable.{scope_in}
use Rattle.expander_scope.specs.Outcomes.{find_of}
use Rattle.expander_session.specs.Memos.{finds_of, tree_of}
use Rattle.expander_session.specs.Reuse.{agrees, same_number}
use Rattle.expander_model.specs.EqualTrees.{same_top}
use Rattle.expander_session.proofs.MemoLemmas.{agrees_mapped}
use Rattle.expander_session.proofs.memo.is_match.Goals as goal

pub returns-then-eq : goal.returns-then-eq
returns-then-eq c =
    let same : same_top c.args.tree.now.value (tree_of c.args.held.now) ≡ true = search rules in
    c.agrees.ensures
    ∙ ap (list_all (λ f. same_number (scope_in c.args.scope.now (find_of f).0) (find_of f).1)) c.as_slice.ensures.value
    ∙ agrees_mapped (scope_in c.args.scope.now) c.args.held.now.finds.items
    ∙ ap (λ (b : Bool). b && agrees (scope_in c.args.scope.now) (finds_of c.args.held.now)) (sym same)
