use Rattle.std.proofs.Common.{◌≡◌, ◌∙◌, List, Option, Some, Global, ap, subst, sym, rules, true}
use Rattle.std.specs.Prelude.{IfSome, slice_get}
use Rattle.std.specs.Rc.{rc_value}
use Rattle.std.specs.declared.rc.Rc.{Rc}
use Rattle.expander_model.specs.Limits.{expanded}
use Rattle.expander_model.specs.Held.{numbered_world, unnumbered}
use Rattle.expander_scope.specs.ScopeTable.{scope_in}
use Rattle.expander_session.specs.CachedOutputs.{Holds}
use Rattle.expander_scope.specs.Outcomes.{parts_of}
use Rattle.expander_session.specs.Memos.{is_match, tree_of}
use Rattle.expander_model.specs.World.{world}
use Rattle.expander_session.specs.declared.memo.Memo.{Memo}
use Rattle.expander_reparse.proofs.ListLemmas.{stands_at}
use Rattle.expander_session.proofs.EvaluateLemmas.{found_parts}
use Rattle.expander_session.proofs.MemoLemmas.{decides, only, test, tree_in}
use Rattle.expander_session.proofs.evaluate.fresh_memo.Goals as goal

pub returns-in_ok-plain-in-Some-clause-holds : goal.returns-in_ok-plain-in-Some-clause-holds
returns-in_ok-plain-in-Some-clause-holds g c = λ given numbers before are rights scope_is met.
    let q : Rc Memo Global = c.index-made-i.result in
    let here : slice_get c.args.taken.now.plains.items c.in-Some.i ≡ Some q =
    ap (λ (qs : List (Rc Memo Global)). slice_get qs c.in-Some.i) (sym c.as_slice-made.ensures.value)
    ∙ stands_at c.as_slice-made.result.now c.in-Some.i q (rw c.in-Some.is at c.find_in_text.ensures.within) c.index-made-i.is in
    let found : IfSome (slice_get c.args.taken.now.plains.items c.in-Some.i) (λ x. is_match (scope_in c.args.env.now.scope.now) c.args.tree.now.value (rc_value x) ≡ true) =
    subst (λ (qs : List (Rc Memo Global)). IfSome (slice_get qs c.in-Some.i) (λ x. is_match (scope_in c.args.env.now.scope.now) c.args.tree.now.value (rc_value x) ≡ true)) c.as_slice-made.ensures.value
    (rw c.in-Some.is at c.find_in_text.ensures.found) in
    let same : c.in_ok-plain-in-Some.plain.value ≡ rc_value q = search rules in
    subst (λ (p : Memo). Holds p
    (parts_of (expanded (numbered_world (world (g.G.FragmentGrammar.answer c.args.env.now.grammar.now) c.args.env.now.scope.now.edition c.args.env.now.dialect.now)) unnumbered (scope_in c.args.env.now.scope.now) c.args.env.now.depth c.args.tree.now.value.inner)))
    (sym same)
    (found_parts (world (g.G.FragmentGrammar.answer c.args.env.now.grammar.now) c.args.env.now.scope.now.edition c.args.env.now.dialect.now) c.args.env.now.depth numbers c.equal_pieces.ensures c.equal_trees.ensures
    given numbers are (λ t n e. e) (scope_in c.args.env.now.scope.now) before scope_is met c.args.tree.now.value c.requires.top c.args.taken.now.plains.items rights c.in-Some.i q here found)

pub returns-in_ok-plain-in-Some-clause-tree : goal.returns-in_ok-plain-in-Some-clause-tree
returns-in_ok-plain-in-Some-clause-tree g c =
    let q : Rc Memo Global = c.index-made-i.result in
    let stands : slice_get c.as_slice-made.result.now c.in-Some.i ≡ Some q = stands_at c.as_slice-made.result.now c.in-Some.i q (rw c.in-Some.is at c.find_in_text.ensures.within) c.index-made-i.is in
    let passes : test (scope_in c.args.env.now.scope.now) c.args.tree.now.value q ≡ true =
    subst (λ (o : Option (Rc Memo Global)). IfSome o (λ x. is_match (scope_in c.args.env.now.scope.now) c.args.tree.now.value (rc_value x) ≡ true)) stands (rw c.in-Some.is at c.find_in_text.ensures.found) in
    let same : c.in_ok-plain-in-Some.plain.value ≡ rc_value q = search rules in
    ap tree_of same ∙ decides c.equal_trees.ensures (tree_in q) c.args.tree.now.value (only c.equal_trees.ensures (scope_in c.args.env.now.scope.now) c.args.tree.now.value q passes)
