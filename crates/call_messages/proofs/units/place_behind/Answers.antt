use Rattle.std.proofs.Common.{◌∙◌, ◌<◌, arith}
use Rattle.call_messages.proofs.UnitLemmas.{one_passed}
use Rattle.call_messages.proofs.units.place_behind.Goals as goal

pub loop-left-preserved : goal.loop-left-preserved
loop-left-preserved c =
    let some : 0 < c.loop-left.left = omega arith in
    one_passed c.loop-left.left c.loop-left.rest c.in_ok-rest.rest some c.in_ok-rest.ensures ∙ c.loop-left.invariant
