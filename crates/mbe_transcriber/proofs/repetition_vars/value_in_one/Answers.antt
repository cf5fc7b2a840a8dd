use Rattle.std.proofs.Common.{◌∙◌, ap}
use Rattle.mbe_matcher.specs.Bindings.{value_at}
use Rattle.mbe_matcher.specs.Bound.{values_of}
use Rattle.mbe_transcriber.proofs.UsesLemmas.{value-one}
use Rattle.mbe_transcriber.proofs.repetition_vars.value_in_one.Goals as goal

pub returns-in-Rounds : goal.returns-in-Rounds
returns-in-Rounds c =
    value-one c.args.number c.args.binding.now c.in-Rounds.values _ c.in-Rounds.is
    (c.member.ensures ∙ ap (λ xs. value_at c.args.number (values_of xs)) c.deref.ensures.value)
