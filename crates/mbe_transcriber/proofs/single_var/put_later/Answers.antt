use Rattle.std.proofs.Common.{refl, arith}
use Rattle.mbe_matcher.specs.Bound.{values_of}
use Rattle.mbe_transcriber.proofs.LoneLemmas.{none-left, separator-bursts, too-many-values, value-bursts, value-fault, value-put}
use Rattle.mbe_transcriber.proofs.PuttingLemmas.{handed}
use Rattle.mbe_transcriber.proofs.single_var.put_later.Goals as goal

pub returns-then-number-ge-MOST_ROUNDS-clause-left : goal.returns-then-number-ge-MOST_ROUNDS-clause-left
returns-then-number-ge-MOST_ROUNDS-clause-left c = λ mark bound ns ts all.
    too-many-values mark bound ns ts (record c.args.left { number = c.loop-place.number }) c.args.place (values_of c.args.values.now) all _ c.loop-place.out.tree
    (c.loop-place.invariant mark bound ns ts all) _ c.loop-place-test.ensures refl (omega (arith, c.if-number-ge-MOST_ROUNDS.true))

pub returns-in_err-put_separator-clause-tokens : goal.returns-in_err-put_separator-clause-tokens
returns-in_err-put_separator-clause-tokens c = λ mark bound ns ts all e.
    separator-bursts mark bound ns ts (record c.args.left { number = c.loop-place.number }) c.args.place (values_of c.args.values.now) all _ c.loop-place.out.tree
    (c.loop-place.invariant mark bound ns ts all) _ c.loop-place-test.ensures refl (omega (arith, c.if-number-ge-MOST_ROUNDS.false))
    (c.in_err-put_separator.ensures.tokens (handed c.from_residual.result _ c.from_residual.ensures.1 e))

pub returns-in_err-put_value-clause-tokens : goal.returns-in_err-put_value-clause-tokens
returns-in_err-put_value-clause-tokens c = λ mark bound ns ts all e.
    value-bursts mark bound ns ts (record c.args.left { number = c.loop-place.number }) c.args.place (values_of c.args.values.now) all _ c.loop-place.out.tree
    (c.loop-place.invariant mark bound ns ts all) _ c.loop-place-test.ensures refl (omega (arith, c.if-number-ge-MOST_ROUNDS.false))
    c.put_separator.new.out.tree c.in_ok-put_separator.ensures.added _ c.member.ensures
    (c.in_err-put_value.ensures.tokens mark bound (handed c.from_residual-in_err-put_value.result _ c.from_residual-in_err-put_value.ensures.1 e))

pub returns-then-not-branch-clause-left : goal.returns-then-not-branch-clause-left
returns-then-not-branch-clause-left c = λ mark bound ns ts all.
    value-fault mark bound ns ts (record c.args.left { number = c.loop-place.number }) c.args.place (values_of c.args.values.now) all _ c.loop-place.out.tree
    (c.loop-place.invariant mark bound ns ts all) _ c.loop-place-test.ensures refl (omega (arith, c.if-number-ge-MOST_ROUNDS.false))
    c.put_separator.new.out.tree c.in_ok-put_separator.ensures.added _ c.member.ensures c.in_ok-put_value.field-0 c.put_value.new.out.tree
    (c.in_ok-put_value.ensures.filled mark bound) c.in_ok-put_value.ensures.same c.if-not-branch.true

pub loop-place-preserved : goal.loop-place-preserved
loop-place-preserved c = λ mark bound ns ts all.
    value-put mark bound ns ts (record c.args.left { number = c.loop-place.number }) c.args.place (values_of c.args.values.now) all _ c.loop-place.out.tree
    (c.loop-place.invariant mark bound ns ts all) _ c.loop-place-test.ensures refl (omega (arith, c.if-number-ge-MOST_ROUNDS.false))
    c.put_separator.new.out.tree c.in_ok-put_separator.ensures.added _ c.member.ensures c.in_ok-put_value.field-0 c.put_value.new.out.tree
    (c.in_ok-put_value.ensures.filled mark bound) c.in_ok-put_value.ensures.same c.if-not-branch.false

pub returns-clause-left : goal.returns-clause-left
returns-clause-left c = λ mark bound ns ts all.
    none-left mark bound ns ts (record c.args.left { number = c.loop-place.number }) c.args.place (values_of c.args.values.now) all _ c.loop-place.out.tree
    (c.loop-place.invariant mark bound ns ts all) _ c.loop-place-test.ensures refl
