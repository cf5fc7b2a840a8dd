use Rattle.std.proofs.Common.{of_calls, sym, ◌∙◌}
use Rattle.tt.proofs.Separators.{is_passed, passes, ends_at, ends_all}
use Rattle.tt.proofs.split.cut.Goals as goal

pub returns-in-None-clause-cut : goal.returns-in-None-clause-cut
returns-in-None-clause-cut g c =
    let part = is_passed g.F.FnMut _ _ _ _ _ _ c.loop-piece.invariant.2.1 (sym c.loop-piece.invariant.1 ∙ c.passed_since-piece.ensures) in
    ends_all g.F.FnMut _ _ _ _ _ part c.in-None.ensures.steps.0

pub returns-then-test-clause-cut : goal.returns-then-test-clause-cut
returns-then-test-clause-cut g c =
    let part = is_passed g.F.FnMut _ _ _ _ _ _ c.loop-piece.invariant.2.1 (sym c.loop-piece.invariant.1 ∙ c.passed_since-piece.ensures) in
    ends_at g.F.FnMut _ _ _ _ _ _ _ _ _ part c.in-Some.ensures.steps c.test.ensures c.if-test.true

pub loop-piece-preserved : goal.loop-piece-preserved
loop-piece-preserved g c =
    let part = is_passed g.F.FnMut _ _ _ _ _ _ c.loop-piece.invariant.2.1 (sym c.loop-piece.invariant.1 ∙ c.passed_since-piece.ensures) in
    (search of_calls, c.loop-piece.invariant.1, (_, passes g.F.FnMut _ _ _ _ _ _ _ _ _ part c.in-Some.ensures.steps c.test.ensures c.if-test.false))
