use Rattle.std.proofs.Common.{◌∙◌, ◌++◌, ap, sym, subst}
use Rattle.tt.specs.Places.{IsStep, steps_before, steps_after}
use Rattle.tt_tests.proofs.CursorLemmas.{all_passed, less_left, moved_on, not_end}
use Rattle.tt_tests.proofs.walks.passed.Goals as goal

pub loop-cursor-init : goal.loop-cursor-init
loop-cursor-init c = ap (λ p. steps_before p ++ steps_after p) c.cursor-cursor.ensures

pub loop-cursor-smaller : goal.loop-cursor-smaller
loop-cursor-smaller c =
    let p = c.loop-cursor.cursor in
    let step = c.walk_of_a_cursor.ensures.step p (not_end p _ c.eof.ensures c.loop-cursor-test.true) in
    less_left p _ (subst (IsStep p) (sym c.bump_or_end.ensures) step)

pub loop-cursor-preserved : goal.loop-cursor-preserved
loop-cursor-preserved c =
    let p = c.loop-cursor.cursor in
    let step = c.walk_of_a_cursor.ensures.step p (not_end p _ c.eof.ensures c.loop-cursor-test.true) in
    moved_on p _ _ (subst (IsStep p) (sym c.bump_or_end.ensures) step) c.loop-cursor.invariant

pub returns : goal.returns
returns c =
    let p = c.loop-cursor.cursor in
    let at = c.eof.ensures.0 c.loop-cursor-test.false in
    let all = all_passed p _ at (c.walk_of_a_cursor.ensures.done p at) c.loop-cursor.invariant in
    c.crossed.ensures ∙ c.walk_of_a_forest.ensures _ _ all
