use Rattle.std.specs.Rc.{rc_value}
use Rattle.expander_scope.specs.ScopeTable.{scope_in}
use Rattle.expander_scope.specs.NameTables.{index_of}
use Rattle.expander_scope.specs.Outcomes.{numbered_of_known}
use Rattle.expander_scope.specs.OffsetTables.{place_at}
use Rattle.expander_scope.proofs.ScopeLemmas.{place_more, scope_same}
use Rattle.expander_scope.proofs.scope.Scope.pass.Goals as goal

pub returns-clause-met : goal.returns-clause-met
unfolding scope_in
returns-clause-met c = λ dialect before out h. record {
  finds = scope_same (λ k. numbered_of_known (rc_value k)) dialect c.args.self.now.known.items
      (record { place = c.args.place; numbered = numbered_of_known c.args.known.now }) (λ other. index_of c.args.self.now.names other) before out h.finds;
  starts = place_more (record { place = c.args.place; numbered = numbered_of_known c.args.known.now }) before (place_at c.args.self.now.starts) _
      c.in_ok-insert.ensures h.starts;
}
