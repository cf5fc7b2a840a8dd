use Rattle.std.proofs.Common.{◌≡◌, List, ◌∷◌, [], ◌++◌, ap, length, sym, subst, ◌∙◌, append-nil, false}
use Rattle.tt_data.specs.Walk.{Step}
use Rattle.bridge.specs.Printers.{HasPut, PrinterState}
use Rattle.bridge.specs.Printing.{is_visible_step}
use Rattle.bridge.specs.TokenEvents.{step_of}
use Rattle.expander_model.specs.Expansion.{PlacedStep}
use Rattle.expander_model.specs.Printing.{visible}
use Rattle.expander_session.specs.Emitting.{told_from}
use Rattle.expander_session.specs.declared.emitter.Emitter.{Emitter}
use Rattle.expander_session.proofs.PrintingLemmas.{puts_step, invisible_words, none_visible, one_visible}
use Rattle.expander_session.proofs.emitter.push_step.Goals as goal
use Rattle.expander_session.proofs.emitter.push_step.Goals.{then-is_visible+in_ok-push_place, else-is_visible}

pub returns-in-Ok : goal.returns-in-Ok
returns-in-Ok c =
    let old = c.args.steps.now in
    let s : PlacedStep = record { step = step_of c.args.step.now; outer = c.args.outer } in
    let now = c.if-is_visible.steps in
    let Puts : PrinterState → Type 0 = λ p. (steps : List Step) → HasPut p steps → HasPut c.put_event.new.self (steps ++ s.step ∷ []) in
    elim c.if-is_visible.branch [
      | then-is_visible+in_ok-push_place w ↦
          let one = one_visible s (sym c.is_visible.ensures ∙ w.if-is_visible.true) in
          puts_step old _ s (subst Puts (ap (λ (o : Emitter). o.printer) w.steps-is ∙ w.push_place.ensures.printer) c.in-Ok.ensures.ok)
          (λ before has. ap (λ (o : Emitter). o.told.items) w.steps-is ∙ w.in_ok-push_place.ensures.told before has
          ∙ ap (λ l. old.told.items ++ told_from (length (visible before)) l) (sym one))
          (ap (λ (o : Emitter). o.nested.items) w.steps-is ∙ w.in_ok-push_place.ensures.nested)
      | else-is_visible w ↦
          let e : is_visible_step s.step ≡ false = sym c.is_visible.ensures ∙ w.if-is_visible.false in
          let none = none_visible s e in
          puts_step old _ s (subst Puts (ap (λ (o : Emitter). o.printer) w.steps-is) c.in-Ok.ensures.ok)
          (λ before has. ap (λ (o : Emitter). o.told.items) w.steps-is ∙ sym (append-nil old.told.items)
          ∙ ap (λ l. old.told.items ++ told_from (length (visible before)) l) (sym none))
          (ap (λ (o : Emitter). o.nested.items) w.steps-is ∙ sym (append-nil old.nested.items) ∙ ap (λ l. old.nested.items ++ l) (sym (invisible_words s e)))
    ]
