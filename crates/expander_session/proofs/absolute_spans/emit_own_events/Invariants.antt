use Rattle.std.proofs.Common.{drop}
use Rattle.std.specs.Prelude.{map}
use Rattle.expander_scope.specs.Outcomes.{placed_of}
use Rattle.expander_session.specs.AbsoluteSpans.{resolved_steps}
use Rattle.expander_session.proofs.PrintingLemmas.{StillPuts}
use Rattle.expander_session.proofs.absolute_spans.emit_own_events.Given as goal

abbrev pub invariant-loop-step : goal.invariant-loop-step
invariant-loop-step l =
    StillPuts l.initial.steps l.steps (resolved_steps l.start l.starts (map placed_of l.own))
    (resolved_steps l.start l.starts (map placed_of (drop l.step-index l.own)))
