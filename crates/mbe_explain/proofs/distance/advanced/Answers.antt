use Rattle.std.proofs.Common.{sym, ap, ◌∙◌, arith}
use Rattle.tt.specs.Views.{forest}
use Rattle.tt_data.specs.Forest.{joined}
use Rattle.mbe_matcher.specs.Places.{place_of}
use Rattle.mbe_matcher.specs.Units as u
use Rattle.mbe_explain.proofs.DistanceLemmas.{bracket-is-one, end-stays, passed-counted, passed-trees}
use Rattle.mbe_explain.proofs.distance.advanced.Goals as goal

pub returns-then-is_end-clause-passed : goal.returns-then-is_end-clause-passed
returns-then-is_end-clause-passed c =
    let stays = c.in_ok-after.ensures ∙ end-stays (place_of c.args.place) c.args.taken (sym c.is_end.ensures ∙ c.if-is_end.true) in
    omega (arith, ap u.left stays)

pub returns-then-is_over_bracket-clause-passed : goal.returns-then-is_over_bracket-clause-passed
returns-then-is_over_bracket-clause-passed c =
    let one = bracket-is-one (place_of c.args.place) c.args.taken (sym c.is_end.ensures ∙ c.if-is_end.false) (sym c.is_over_bracket.ensures ∙ c.if-is_over_bracket.true) in
    omega (arith, one, ap u.left c.in_ok-after-2.ensures)

pub passed_since-requires : goal.passed_since-requires
passed_since-requires c =
    let w = passed-trees (place_of c.args.place) (place_of c.in_ok-after-3.after) c.args.taken (sym c.is_end.ensures ∙ c.if-is_end.false)
    (sym c.is_over_bracket.ensures ∙ c.if-is_over_bracket.false) c.in_ok-after-3.ensures in
    (w.0, c.remaining-before.ensures ∙ c.rest.ensures ∙ w.1 ∙ ap (joined w.0) (sym c.rest-2.ensures))

pub returns-clause-passed : goal.returns-clause-passed
returns-clause-passed c =
    let passed = forest c.passed_since.result in
    let counted = passed-counted (place_of c.args.place) (place_of c.in_ok-after-3.after) c.args.taken passed (sym c.is_end.ensures ∙ c.if-is_end.false)
    (sym c.is_over_bracket.ensures ∙ c.if-is_over_bracket.false) c.in_ok-after-3.ensures
    (sym c.rest.ensures ∙ sym c.remaining-before.ensures ∙ c.passed_since.ensures ∙ ap (joined passed) c.rest-2.ensures) in
    omega (arith, counted, c.steps-passed.ensures)
