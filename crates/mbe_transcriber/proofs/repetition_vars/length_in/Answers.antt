use Rattle.std.proofs.Common.{◌∙◌, sym, ap, [], ◌∷◌, ◌++◌, option_map}
use Rattle.mbe_matcher.specs.Bindings.{value_at}
use Rattle.mbe_matcher.specs.Bound.{standing_for, values_of}
use Rattle.mbe_transcriber.specs.Filling.{use_in}
use Rattle.mbe_transcriber.proofs.UsesLemmas.{use-step}
use Rattle.mbe_transcriber.proofs.repetition_vars.length_in.Goals as goal

pub loop-here-preserved : goal.loop-here-preserved
loop-here-preserved c = λ k.
    use-step c.loop-here.left.now c.in-Some-split_first.number.now k c.in-Some-split_first.inner.now c.in-Some.binding.now c.in-Rounds.values _
    c.in-Some-split_first.ensures.cases.0 c.in-Rounds.is
    (c.member-here.ensures ∙ ap (λ xs. value_at c.in-Some-split_first.number.now (values_of xs)) c.deref.ensures.value)
    ∙ sym (ap (λ o. use_in (c.loop-here.left.now ++ (k ∷ [])) (option_map (λ b. standing_for b.now) o)) c.in-Some.is)
    ∙ c.loop-here.invariant k
