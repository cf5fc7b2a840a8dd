use Rattle.std.proofs.Common.{◌≡◌, ◌∙◌, Some, ap, rules, subst, sym, Global}
use Rattle.std.specs.Prelude.{slice_get}
use Rattle.std.specs.Rc.{rc_value}
use Rattle.std.specs.declared.rc.Rc.{Rc}
use Rattle.tt.specs.Tops.{Top}
use Rattle.expander_reparse.proofs.ListLemmas.{stands_at}
use Rattle.expander_session.specs.LookupTrees.{branch_of, first_of, lookups_at, lookups_of}
use Rattle.expander_session.specs.Memos.{tree_of}
use Rattle.expander_session.specs.declared.memo.Memo.{Memo}
use Rattle.expander_session.proofs.LookupTreeLemmas.{index_more, leads_here, on_ok}
use Rattle.expander_session.proofs.lookup_tree.LookupTree.push.Goals as goal

pub returns-in_ok-clone-in-None : goal.returns-in_ok-clone-in-None
returns-in_ok-clone-in-None c =
    let q : Rc Memo Global = c.index-memos-index.result in
    let here : slice_get c.args.memos.now c.args.index ≡ Some q = stands_at c.args.memos.now c.args.index q c.requires.within c.index-memos-index.is in
    let tree_is : c.in_ok-clone-in-None.field-0.value ≡ tree_of (rc_value q) = search rules in
    on_ok c.start.result c.start.ensures.first c.start.ensures.here c.start.ensures.more c.start.ensures.whole
    (λ firsts put more wholes.
    index_more c.args.self.now c.start.new.self c.args.memos.now c.args.index q here (λ w. sym wholes ∙ w) firsts more
    (λ w. record {
      start = c.args.index;
      first = subst (λ (t : Top). first_of c.start.new.self t ≡ Some c.args.index) tree_is put;
      leads = leads_here (branch_of c.start.new.self) (lookups_at c.args.memos.now) c.args.index 0 _ (ap lookups_of here);
    }))
