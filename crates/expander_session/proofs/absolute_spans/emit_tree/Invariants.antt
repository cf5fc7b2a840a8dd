use Rattle.std.specs.Prelude.{None}
use Rattle.tt_data.specs.Walk.{walk}
use Rattle.expander_model.specs.Expansion.{just}
use Rattle.expander_model.specs.Held.{Numbered}
use Rattle.expander_session.specs.AbsoluteSpans.{resolved_steps}
use Rattle.expander_model.specs.WalkSteps.{groups_of}
use Rattle.expander_scope.proofs.OutcomeLemmas.{left, work_of}
use Rattle.expander_session.proofs.PrintingLemmas.{StillPuts}
use Rattle.expander_session.proofs.absolute_spans.emit_tree.Given as goal

abbrev pub invariant-loop-rest : goal.invariant-loop-rest
invariant-loop-rest l =
    StillPuts l.initial.steps l.steps (resolved_steps l.start l.starts (just {D = Numbered} None (walk l.tree.inner)).steps)
    (resolved_steps l.start l.starts (left {D = Numbered} None (λ f. just None (walk f)) l.rest.here (groups_of l.rest)).steps)

abbrev pub decreases-loop-rest : goal.decreases-loop-rest
decreases-loop-rest l = work_of l.rest.here (groups_of l.rest)
