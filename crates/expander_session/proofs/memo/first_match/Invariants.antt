use Rattle.std.proofs.Common.{◌≡◌, drop}
use Rattle.std.specs.List.{list_any}
use Rattle.expander_scope.specs.ScopeTable.{scope_in}
use Rattle.expander_session.proofs.MemoLemmas.{test}
use Rattle.expander_session.proofs.memo.first_match.Given as goal

-- those left decide
abbrev pub invariant-loop-i : goal.invariant-loop-i
invariant-loop-i l =
    list_any (test (scope_in l.fn.scope) l.fn.tree.value) l.fn.held
    ≡ list_any (test (scope_in l.fn.scope) l.fn.tree.value) (drop l.i l.held)
