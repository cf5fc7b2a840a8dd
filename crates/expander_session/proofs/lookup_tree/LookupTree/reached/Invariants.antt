use Rattle.std.proofs.Common.{◌-◌}
use Rattle.expander_scope.specs.ScopeTable.{scope_in}
use Rattle.expander_session.proofs.LookupTreeLemmas.{Reaches, longest}
use Rattle.expander_session.proofs.lookup_tree.LookupTree.reached.Given as goal

-- what the look-ups of a valid memo found leads from here to one
abbrev pub invariant-loop-lookup : goal.invariant-loop-lookup
invariant-loop-lookup l = Reaches l.self l.memos (scope_in l.scope) l.fn.tree.value l.at l.place

-- how many look-ups may be left
abbrev pub decreases-loop-lookup : goal.decreases-loop-lookup
decreases-loop-lookup l = longest l.memos - l.place
