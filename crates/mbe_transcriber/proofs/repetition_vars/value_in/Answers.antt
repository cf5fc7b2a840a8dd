use Rattle.std.proofs.Common.{◌∙◌, ap, sym, option_and_then, arith}
use Rattle.mbe_matcher.specs.Bound.{standing_for}
use Rattle.mbe_transcriber.specs.Filling.{value_in}
use Rattle.mbe_transcriber.proofs.UsesLemmas.{value-then, value-next, value-ended}
use Rattle.mbe_transcriber.proofs.repetition_vars.value_in.Goals as goal

pub loop-number-preserved : goal.loop-number-preserved
loop-number-preserved c =
    value-next c.in-Some.inner.now c.loop-number.number-index _ _ _ _ (omega arith) c.loop-number-test.true c.value_then-here.ensures c.loop-number.invariant

pub returns : goal.returns
returns c =
    value-ended c.in-Some.inner.now c.loop-number.number-index _ _ c.loop-number-test.false c.loop-number.invariant
    ∙ ap (option_and_then (value_in c.in-Some.inner.now)) c.value_in_one-here.ensures
    ∙ value-then c.in-Some.first.now c.in-Some.inner.now (standing_for c.args.binding.now)
    ∙ ap (λ ns. value_in ns (standing_for c.args.binding.now)) (sym c.in-Some.ensures.cases.0)
