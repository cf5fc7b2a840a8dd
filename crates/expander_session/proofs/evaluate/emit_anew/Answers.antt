use Rattle.std.proofs.Common.{◌≡◌, ap, rules, subst}
use Rattle.tt.specs.Tops.{Top}
use Rattle.expander_model.specs.Expansion.{PlacedStep}
use Rattle.expander_model.specs.Limits.{expanded}
use Rattle.expander_model.specs.Held.{numbered_world, unnumbered}
use Rattle.expander_scope.specs.ScopeTable.{scope_in}
use Rattle.expander_scope.specs.Outcomes.{Parts}
use Rattle.expander_session.specs.Emitting.{PutsOut}
use Rattle.expander_session.specs.AbsoluteSpans.{resolved_steps}
use Rattle.expander_model.specs.World.{world}
use Rattle.std.specs.Prelude.{List}
use Rattle.expander_session.proofs.evaluate.emit_anew.Goals as goal

pub returns-clause-steps : goal.returns-clause-steps
returns-clause-steps g c =
    let lent : c.tree-own.result.now ≡ c.args.tree.value = search rules in
    let now = λ (l : List PlacedStep). PutsOut c.args.steps.now c.emit_events.new.steps (resolved_steps c.args.start c.args.env.now.scope.now.starts l) in
    let puts = subst now (ap (λ (p : Parts). p.steps) c.in_ok-outcome.ensures.outcome) c.in_ok-emit_events.ensures in
    subst (λ (t : Top). now (expanded (numbered_world (world (g.G.FragmentGrammar.answer c.args.env.now.grammar.now) c.args.env.now.scope.now.edition c.args.env.now.dialect.now)) unnumbered (scope_in c.args.env.now.scope.now) c.args.env.now.depth t.inner).steps) lent puts
