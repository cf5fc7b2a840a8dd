use Rattle.std.proofs.Common.{[], ap, map, ◌∙◌}
use Rattle.expander_model.specs.Held.{numbered_world}
use Rattle.expander_model.specs.World.{world}
use Rattle.expander_scope.specs.Outcomes.{placed_of}
use Rattle.expander_scope.specs.ScopeTable.{scope_in}
use Rattle.expander_scope.proofs.CallResultLemmas.{quiet_parts}
use Rattle.expander_scope.proofs.QuietLemmas.{quiet_scoped}
use Rattle.expander_scope.proofs.expand.expand_piece.Goals as goal

pub returns-clause-outcome : goal.returns-clause-outcome
returns-clause-outcome g c =
    let e = c.in_ok-output.ensures.expands in
    let steps = e.steps [] (ap (map placed_of) c.in_ok-steps.ensures.items) in
    λ i. record { steps = steps i; faults = e.faults i; finds = e.finds i }

pub returns-then-quiet-clause-outcome : goal.returns-then-quiet-clause-outcome
returns-then-quiet-clause-outcome g c =
    c.unchanged.ensures c.args.tree.now.inner
    ∙ quiet_parts (numbered_world (world (g.G.FragmentGrammar.answer c.args.env.now.grammar.now) c.args.env.now.scope.now.edition c.args.env.now.dialect.now)) (scope_in c.args.env.now.scope.now) c.args.env.now.depth c.args.tree.now.inner
    (quiet_scoped c.args.env.now.dialect.now (numbered_world (world (g.G.FragmentGrammar.answer c.args.env.now.grammar.now) c.args.env.now.scope.now.edition c.args.env.now.dialect.now)) c.args.env.now.depth c.args.tree.now.inner (scope_in c.args.env.now.scope.now)
    (c.in_ok-quiet.ensures.whole c.if-quiet.true)
    (rw c.iter.ensures at (c.in_ok-quiet.ensures.words c.if-quiet.true))
    (rw c.iter.ensures at (c.in_ok-quiet.ensures.calls c.if-quiet.true)))
