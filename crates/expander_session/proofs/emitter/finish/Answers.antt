use Rattle.std.proofs.Common.{◌++◌, ap, ◌∙◌, append_assoc}
use Rattle.bridge.specs.Printing.{Print}
use Rattle.expander_session.specs.Emitting.{faults_at}
use Rattle.expander_model.specs.Printing.{steps_of}
use Rattle.expander_session.proofs.PrintingLemmas.{faults_are}
use Rattle.expander_session.proofs.emitter.finish.Goals as goal

pub returns-clause-faults : goal.returns-clause-faults
returns-clause-faults c = λ all has.
    let faults = c.args.faults.now.items in
    let nested = c.args.steps.nested.items in
    let told = c.args.steps.told.items in
    let left = ap (λ (p : Print). p.left_out) (c.in-Ok.ensures.ok (steps_of all) has.printer) in
    c.in_ok-push_left_out.ensures
    ∙ ap (λ l. l ++ faults_at c.as_slice-2.result.now c.as_slice-3.result.now) (c.in_ok-extend_from_slice.ensures.items ∙ ap (λ l. faults ++ l) c.as_slice.ensures.value)
    ∙ ap (λ l. (faults ++ nested) ++ faults_at l c.as_slice-3.result.now) c.as_slice-2.ensures.value
    ∙ ap (λ l. (faults ++ nested) ++ faults_at told l) (c.as_slice-3.ensures.value ∙ left)
    ∙ append_assoc faults nested _
    ∙ ap (λ l. faults ++ l) (faults_are c.args.steps all has)
