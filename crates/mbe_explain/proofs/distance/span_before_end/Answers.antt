use Rattle.std.proofs.Common.{◌∙◌, sym, subst, arith}
use Rattle.tt.specs.Places.{IsStep, steps_after}
use Rattle.mbe_explain.proofs.DistanceLemmas.{get-further, not-true}
use Rattle.mbe_explain.proofs.distance.span_before_end.Goals as goal

pub loop-passed-preserved : goal.loop-passed-preserved
loop-passed-preserved c =
    let p = c.loop-passed.cursor in
    let step = subst (IsStep p) (sym c.bump_or_end.ensures) (c.walk_of_a_cursor.ensures.step p (not-true c.eof.result c.eof.ensures c.if-eof.false)) in
    get-further (steps_after p) (steps_after c.bump_or_end.new.self) step.0 c.loop-passed.passed (omega arith) step.2 ∙ c.loop-passed.invariant
