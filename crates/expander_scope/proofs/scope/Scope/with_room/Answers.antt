use Rattle.std.specs.Rc.{rc_value}
use Rattle.expander_scope.specs.ScopeTable.{scope_in}
use Rattle.expander_scope.specs.NameTables.{index_of}
use Rattle.expander_scope.specs.Outcomes.{numbered_of_known}
use Rattle.expander_scope.proofs.ScopeLemmas.{scope_none}
use Rattle.expander_scope.proofs.scope.Scope.with_room.Goals as goal

pub returns-clause-none : goal.returns-clause-none
unfolding scope_in
returns-clause-none c = λ dialect. record {
  finds = scope_none (λ k. numbered_of_known (rc_value k)) dialect c.in_ok-known.known.items (λ name. index_of c.in_ok-names.names name) c.in_ok-names.ensures;
  starts = c.in_ok-starts.ensures;
}
