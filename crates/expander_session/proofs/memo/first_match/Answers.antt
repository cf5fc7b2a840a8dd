use Rattle.std.proofs.Common.{◌≡◌, ◌∙◌, Option, Some, true, false, sym, subst, rules, Global}
use Rattle.std.specs.Prelude.{IfSome, slice_get}
use Rattle.std.specs.Rc.{rc_value}
use Rattle.std.specs.declared.rc.Rc.{Rc}
use Rattle.expander_scope.specs.ScopeTable.{scope_in}
use Rattle.expander_model.specs.HashedTrees.{tree_hash}
use Rattle.expander_session.specs.Memos.{is_match}
use Rattle.expander_session.specs.declared.memo.Memo.{Memo}
use Rattle.expander_session.proofs.MemoLemmas.{any_found, other_hash, test}
use Rattle.expander_reparse.proofs.ListLemmas.{passed_by, stands_at}
use Rattle.expander_session.proofs.memo.first_match.Goals as goal
use Rattle.expander_session.proofs.memo.first_match.Goals.{else-hashes-i-via-then-hashes-i+else-is_match, else-hashes-i-via-else-hashes-i}

pub loop-i-preserved : goal.loop-i-preserved
loop-i-preserved c =
    c.loop-i.invariant
    ∙ elim c.else-hashes-i.branch [
      | else-hashes-i-via-then-hashes-i+else-is_match w ↦
          let fails : test (scope_in c.args.scope.now) c.args.tree.now.value w.index-held-i.result ≡ false = search rules in
          passed_by (test (scope_in c.args.scope.now) c.args.tree.now.value) c.args.held.now c.loop-i.i w.index-held-i.result c.loop-i-test.true w.index-held-i.is fails
      | else-hashes-i-via-else-hashes-i w ↦
          let hash_is : c.kept_hash-hash.result ≡ tree_hash c.args.tree.now.value = search rules in
          other_hash c.equal_trees.ensures (scope_in c.args.scope.now) c.args.tree.now.value c.args.hashes.now c.args.held.now c.requires.hashes c.loop-i.i c.loop-i-test.true (λ e. w.if-hashes-i.false (e ∙ sym hash_is))
    ]

pub returns-then-is_match-clause-any : goal.returns-then-is_match-clause-any
returns-then-is_match-clause-any c =
    let stands : slice_get c.args.held.now c.loop-i.i ≡ Some c.index-held-i.result = stands_at c.args.held.now c.loop-i.i c.index-held-i.result c.loop-i-test.true c.index-held-i.is in
    let passes : test (scope_in c.args.scope.now) c.args.tree.now.value c.index-held-i.result ≡ true = search rules in
    any_found c.equal_trees.ensures (scope_in c.args.scope.now) c.args.tree.now.value c.args.held.now c.loop-i.i c.index-held-i.result stands passes

pub returns-then-is_match-clause-found : goal.returns-then-is_match-clause-found
returns-then-is_match-clause-found c =
    let stands : slice_get c.args.held.now c.loop-i.i ≡ Some c.index-held-i.result = stands_at c.args.held.now c.loop-i.i c.index-held-i.result c.loop-i-test.true c.index-held-i.is in
    let passes : test (scope_in c.args.scope.now) c.args.tree.now.value c.index-held-i.result ≡ true = search rules in
    subst (λ (o : Option (Rc Memo Global)). IfSome o (λ q. is_match (scope_in c.args.scope.now) c.args.tree.now.value (rc_value q) ≡ true)) (sym stands) passes
