use Rattle.tt_data.specs.Walk.{walk}
use Rattle.expander_model.specs.Expansion.{just, placed}
use Rattle.expander_model.specs.Held.{Numbered}
use Rattle.expander_model.specs.WalkSteps.{groups_of}
use Rattle.expander_scope.proofs.OutcomeLemmas.{left, work_of}
use Rattle.expander_scope.proofs.SinkLemmas.{StillTakes}
use Rattle.expander_scope.proofs.event_sink.take_walk.Given as goal

abbrev pub invariant-loop-rest : goal.invariant-loop-rest
invariant-loop-rest g l =
    StillTakes g.S.EventSink.has_taken l.initial.sink l.sink (placed l.outer (walk l.trees))
    (left {D = Numbered} l.outer (λ f. just l.outer (walk f)) l.rest.here (groups_of l.rest)).steps

abbrev pub decreases-loop-rest : goal.decreases-loop-rest
decreases-loop-rest g l = work_of l.rest.here (groups_of l.rest)
