use Rattle.std.proofs.Common.{sym, subst}
use Rattle.tt.specs.Places.{Place, IsStep}
use Rattle.grammar_tests.proofs.CallerLemmas.{not_at_end, one_further}
use Rattle.grammar_tests.proofs.behind_prefix.Goals as goal

pub loop-left-preserved : goal.loop-left-preserved
loop-left-preserved g c =
    let here : Place = c.loop-left.cursor in
    let inside = not_at_end here c.loop-left.left (c.walk_of_a_cursor.ensures.done here) c.loop-left-test.true c.loop-left.invariant.0 in
    one_further here c.bump_or_end.new.self c.loop-left.left _
    (subst (IsStep here) (sym c.bump_or_end.ensures) (c.walk_of_a_cursor.ensures.step here inside)) c.loop-left-test.true c.loop-left.invariant.0 c.loop-left.invariant.1
