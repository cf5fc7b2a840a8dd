use Rattle.std.proofs.Common.{◌∙◌, ap, sym}
use Rattle.tt_data.specs.Forest.{joined}
use Rattle.tt.specs.Views.{forest}
use Rattle.expander_model.proofs.WholeLemmas.{goes_always, none_begun, open_always, passed_always, whole_always}
use Rattle.expander_model.proofs.split.shape_of.Goals as goal

pub loop-rest-init : goal.loop-rest-init
loop-rest-init c = (c.remaining-start.ensures ∙ c.copied-rest.ensures, rw c.copied-rest.ensures (_, none_begun c.args.piece.now))

pub loop-rest-preserved : goal.loop-rest-preserved
loop-rest-preserved c =
    let begun = passed_always (forest c.remaining-start.result) c.args.piece.now c.loop-rest.rest c.loop-rest.invariant.1.0 c.iter-begun.result
    c.loop-rest.invariant.0 c.loop-rest.invariant.1.1
    (c.passed_since.ensures ∙ ap (λ f. joined f c.loop-rest.rest) (sym c.iter-begun.ensures)) in
    (c.loop-rest.invariant.0, (goes_always c.args.piece.now c.loop-rest.rest c.pass_tree.new.rest c.iter-begun.result begun (rw c.in-Some-false.field-0-test at c.in-Some-false.ensures.always)).0)

pub loop-rest-smaller : goal.loop-rest-smaller
loop-rest-smaller c =
    let begun = passed_always (forest c.remaining-start.result) c.args.piece.now c.loop-rest.rest c.loop-rest.invariant.1.0 c.iter-begun.result
    c.loop-rest.invariant.0 c.loop-rest.invariant.1.1
    (c.passed_since.ensures ∙ ap (λ f. joined f c.loop-rest.rest) (sym c.iter-begun.ensures)) in
    (goes_always c.args.piece.now c.loop-rest.rest c.pass_tree.new.rest c.iter-begun.result begun (rw c.in-Some-false.field-0-test at c.in-Some-false.ensures.always)).1

pub returns-in-None-2 : goal.returns-in-None-2
returns-in-None-2 c =
    open_always c.args.piece.now c.loop-rest.rest c.loop-rest.invariant.1.0 c.loop-rest.invariant.1.1 c.in-None.ensures.next.0
    (λ e. let t = c.if-is_empty.ensures.1 e in cc)

pub returns-in-Some-true : goal.returns-in-Some-true
returns-in-Some-true c =
    let begun = passed_always (forest c.remaining-start.result) c.args.piece.now c.loop-rest.rest c.loop-rest.invariant.1.0 c.iter-begun.result
    c.loop-rest.invariant.0 c.loop-rest.invariant.1.1
    (c.passed_since.ensures ∙ ap (λ f. joined f c.loop-rest.rest) (sym c.iter-begun.ensures)) in
    whole_always c.args.piece.now c.loop-rest.rest c.pass_tree.new.rest c.iter-begun.result begun (rw c.in-Some-true.field-0-test at c.in-Some-true.ensures.always)
    (c.is_empty-then-this.ensures.0 c.if-is_empty-2.true)
