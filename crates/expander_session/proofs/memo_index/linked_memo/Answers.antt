use Rattle.std.proofs.Common.{◌≡◌, ◌<◌, Some, length, map, rules, true}
use Rattle.std.specs.Prelude.{slice_get}
use Rattle.std.specs.Rc.{rc_value}
use Rattle.expander_scope.specs.ScopeTable.{scope_in}
use Rattle.expander_session.specs.Memos.{finds_of}
use Rattle.expander_session.specs.Reuse.{agrees}
use Rattle.expander_session.proofs.MemoLemmas.{linked_is_match, tree_in}
use Rattle.expander_reparse.proofs.ListLemmas.{at_place, stands_at}
use Rattle.expander_session.proofs.memo_index.linked_memo.Goals as goal

pub bounds-held-i : goal.bounds-held-i
bounds-held-i c = rw c.in-Some.is at c.requires.within

pub returns-then-is_valid : goal.returns-then-is_valid
returns-then-is_valid c = λ t leads.
    let here : slice_get (map tree_in c.args.held.now) c.in-Some.i ≡ Some t = rw c.in-Some.is at leads in
    let within : c.in-Some.i < length c.args.held.now = rw c.in-Some.is at c.requires.within in
    let stands : slice_get c.args.held.now c.in-Some.i ≡ Some c.index-held-i.result = stands_at c.args.held.now c.in-Some.i c.index-held-i.result within c.index-held-i.is in
    let agree : agrees (scope_in c.args.scope.now) (finds_of (rc_value c.index-held-i.result)) ≡ true = search rules in
    linked_is_match c.equal_trees.ensures (scope_in c.args.scope.now) t c.args.held.now c.in-Some.i c.index-held-i.result stands
    (at_place tree_in c.args.held.now c.in-Some.i c.index-held-i.result t stands here) agree
