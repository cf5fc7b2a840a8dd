use Rattle.std.proofs.Common.{◌≡◌, length, arith, rules}
use Rattle.std.proofs.lemmas.Result.{on_ok_weaker}
use Rattle.std.specs.Rc.{rc_value}
use Rattle.expander_scope.specs.Editions.{IsRead}
use Rattle.expander_scope.specs.ScopeTable.{scope_in}
use Rattle.expander_scope.specs.NameTables.{index_of}
use Rattle.expander_scope.specs.Outcomes.{numbered_of_known}
use Rattle.expander_scope.specs.OffsetTables.{place_at}
use Rattle.expander_scope.proofs.ScopeLemmas.{all_more, place_more, scope_more, within_after}
use Rattle.expander_scope.proofs.scope.Scope.define.Goals as goal

pub returns-clause-met : goal.returns-clause-met
unfolding scope_in
returns-clause-met c = λ dialect before inside h.
    let counted : c.len-index.result ≡ length c.args.self.now.known.items = omega arith in
    let name_is : c.in-Ok.name ≡ (numbered_of_known c.args.known.value).definition.name.sym = search rules in
    on_ok_weaker c.insert-2.result (λ named. record {
      finds = scope_more (λ k. numbered_of_known (rc_value k)) dialect c.args.self.now.known.items c.push.new.self.items c.args.known c.len-index.result c.args.place c.in-Ok.name
          (λ other. index_of c.args.self.now.names other) (λ other. index_of c.insert-2.new.self other) before c.args.self.now.in_range counted c.in_ok-push.ensures.items
          named name_is inside h.finds;
      starts = place_more (record { place = c.args.place; numbered = numbered_of_known c.args.known.value }) before (place_at c.args.self.now.starts) _
          (rw c.as_ref-2.ensures at c.in_ok-insert.ensures) h.starts;
    }) c.insert-2.ensures.ok

pub returns-clause-read : goal.returns-clause-read
returns-clause-read c =
    on_ok_weaker c.insert-2.result (λ named.
    all_more (λ k. IsRead c.args.self.now.edition (rc_value k)) c.args.self.now.known.items c.push.new.self.items c.args.known c.in_ok-push.ensures.items c.requires.read c.requires.rules)
    c.insert-2.ensures.ok

pub invariant_of-self-2 : goal.invariant_of-self-2
invariant_of-self-2 c =
    let counted : c.len-index.result ≡ length c.args.self.now.known.items = omega arith in
    record {
      in_range = within_after c.insert-2.result c.args.self.now.known.items c.push.new.self.items c.args.known c.len-index.result c.in-Ok.name
          (λ other. index_of c.args.self.now.names other) (λ other. index_of c.insert-2.new.self other) c.args.self.now.in_range counted c.in_ok-push.ensures.items
          c.insert-2.ensures.ok c.insert-2.ensures.err;
    }

pub invariant_of-self-in-Break-branch-2 : goal.invariant_of-self-in-Break-branch-2
invariant_of-self-in-Break-branch-2 c = record { in_range = rw c.in_err-push.ensures.items c.args.self.now.in_range }
