use Rattle.std.proofs.Common.{sym, ap, ◌∙◌, Some}
use Rattle.mbe_matcher.specs.Bindings.{rounds}
use Rattle.mbe_matcher.specs.Bound.{map_of, standing_for, values_of}
use Rattle.mbe_matcher.proofs.BoundLemmas.{standing-Rounds}
use Rattle.mbe_transcriber.proofs.LoneLemmas.{lone}
use Rattle.mbe_transcriber.proofs.single_var.lone_values.Goals as goal

pub returns-in-Rounds : goal.returns-in-Rounds
returns-in-Rounds c = λ mark.
    lone mark (map_of c.args.bindings.now) c.args.rounds.now c.args.body.now c.in-Some.rest.now c.in-Some.op.now c.in-Var.name c.in-Var.kind c.in-Var.id
    c.deref.result.now c.in-Some.ensures.cases.0 (sym c.is_empty.ensures ∙ c.if-not-is_empty.false) c.in-Var.is
    (sym c.in-Some-value_here.ensures ∙ ap (λ x. Some (standing_for x)) c.in-Rounds.is ∙ ap Some (standing-Rounds c.in-Rounds.values)
    ∙ ap (λ xs. Some (rounds (values_of xs))) (sym c.deref.ensures.value))
