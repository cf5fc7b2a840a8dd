use Rattle.std.proofs.Common.{◌≡◌, ℕ, List, ◌∷◌, [], ◌++◌, ap, length, sym, ◌∙◌}
use Rattle.std.proofs.lemmas.List.{length-map}
use Rattle.tt_data.specs.declared.span.Span.{Span}
use Rattle.bridge.specs.Printing as bare_printing
use Rattle.expander_model.specs.Expansion.{PlacedStep}
use Rattle.expander_model.specs.Printing.{steps_of, visible}
use Rattle.expander_session.specs.declared.emitter.Told.{Told}
use Rattle.expander_session.proofs.PrintingLemmas.{visible_bare}
use Rattle.expander_session.proofs.emitter.push_place.Goals as goal

as_many : (before : List PlacedStep) → length (bare_printing.visible (steps_of before)) ≡ length (visible before)
as_many before = ap length (sym (visible_bare before)) ∙ length-map (visible before) (λ (s : PlacedStep). s.step)

told : (old new : List Told) (n : ℕ) (s t : Span) (before : List PlacedStep) → new ≡ old ++ record { number = n; range = s.range } ∷ []
    → n ≡ length (bare_printing.visible (steps_of before)) → s ≡ t → new ≡ old ++ record { number = length (visible before); range = t.range } ∷ []
told old new n s t before pushed many same =
    pushed ∙ ap (λ (k : ℕ). old ++ record { number = k; range = s.range } ∷ []) (many ∙ as_many before)
    ∙ ap (λ (p : Span). old ++ record { number = length (visible before); range = p.range } ∷ []) same

pub returns-else-is_definition_word-clause-told : goal.returns-else-is_definition_word-clause-told
returns-else-is_definition_word-clause-told c = λ before has.
    told _ _ _ _ _ before c.in_ok-push.ensures.items (c.count-number.ensures (steps_of before) has) c.place.ensures

pub returns-in_ok-push-2-clause-told : goal.returns-in_ok-push-2-clause-told
returns-in_ok-push-2-clause-told c = λ before has.
    told _ _ _ _ _ before c.in_ok-push.ensures.items (c.count-number.ensures (steps_of before) has) c.place.ensures
