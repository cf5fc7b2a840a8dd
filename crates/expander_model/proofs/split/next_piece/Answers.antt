use Rattle.std.proofs.Common.{ap, sym, ◌∙◌}
use Rattle.tt_data.specs.Forest.{joined}
use Rattle.tt.specs.Views.{forest}
use Rattle.expander_model.proofs.SplittingLemmas.{is_passed, ends_text, ends_here, passed_whole, goes_on}
use Rattle.expander_model.proofs.split.next_piece.Goals as goal

pub returns-in-None : goal.returns-in-None
returns-in-None c =
    let begun = is_passed (forest c.remaining-start.result) c.args.rest.now c.loop-begun.rest c.loop-begun.invariant.2.0 c.iter-begun.result
    c.loop-begun.invariant.0 c.loop-begun.invariant.2.1
    (c.passed_since.ensures ∙ ap (λ f. joined f c.loop-begun.rest) (sym c.iter-begun.ensures)) in
    ends_text c.args.rest.now c.loop-begun.rest c.pass_tree.new.rest c.iter-begun.result c.loop-begun.invariant.1 begun c.in-None.ensures.next

pub passed_since-requires-in-Some-true : goal.passed_since-requires-in-Some-true
passed_since-requires-in-Some-true c =
    let begun = is_passed (forest c.remaining-start.result) c.args.rest.now c.loop-begun.rest c.loop-begun.invariant.2.0 c.iter-begun.result
    c.loop-begun.invariant.0 c.loop-begun.invariant.2.1
    (c.passed_since.ensures ∙ ap (λ f. joined f c.loop-begun.rest) (sym c.iter-begun.ensures)) in
    let whole = passed_whole c.args.rest.now c.loop-begun.rest c.pass_tree.new.rest c.iter-begun.result begun (rw c.in-Some-true.field-0-test at c.in-Some-true.ensures.next) in
    (whole.0, c.loop-begun.invariant.0 ∙ whole.1)

pub returns-in-Some-true : goal.returns-in-Some-true
returns-in-Some-true c =
    let begun = is_passed (forest c.remaining-start.result) c.args.rest.now c.loop-begun.rest c.loop-begun.invariant.2.0 c.iter-begun.result
    c.loop-begun.invariant.0 c.loop-begun.invariant.2.1
    (c.passed_since.ensures ∙ ap (λ f. joined f c.loop-begun.rest) (sym c.iter-begun.ensures)) in
    ends_here c.args.rest.now c.loop-begun.rest c.pass_tree.new.rest c.iter-begun.result c.iter.result begun (rw c.in-Some-true.field-0-test at c.in-Some-true.ensures.next)
    (sym c.loop-begun.invariant.0 ∙ c.passed_since-in-Some-true.ensures ∙ ap (λ f. joined f c.pass_tree.new.rest) (sym c.iter.ensures))

pub loop-begun-preserved : goal.loop-begun-preserved
loop-begun-preserved c =
    let begun = is_passed (forest c.remaining-start.result) c.args.rest.now c.loop-begun.rest c.loop-begun.invariant.2.0 c.iter-begun.result
    c.loop-begun.invariant.0 c.loop-begun.invariant.2.1
    (c.passed_since.ensures ∙ ap (λ f. joined f c.loop-begun.rest) (sym c.iter-begun.ensures)) in
    (c.loop-begun.invariant.0, c.loop-begun.invariant.1, goes_on c.args.rest.now c.loop-begun.rest c.pass_tree.new.rest c.iter-begun.result begun (rw c.in-Some-false.field-0-test at c.in-Some-false.ensures.next))
