use Rattle.std.proofs.Common.{◌≡◌, drop}
use Rattle.std.specs.List.{list_all}
use Rattle.expander_scope.specs.ScopeTable.{scope_in}
use Rattle.expander_scope.specs.Outcomes.{find_of}
use Rattle.expander_session.specs.Reuse.{same_number}
use Rattle.expander_session.proofs.memo.agrees.Given as goal

-- those left decide
abbrev pub invariant-loop-find : goal.invariant-loop-find
invariant-loop-find l =
    list_all (λ f. same_number (scope_in l.fn.scope (find_of f).0) (find_of f).1) l.fn.finds
    ≡ list_all (λ f. same_number (scope_in l.fn.scope (find_of f).0) (find_of f).1) (drop l.find-index l.finds)
