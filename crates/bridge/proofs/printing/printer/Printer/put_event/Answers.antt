use Rattle.std.proofs.Common.{[], ◌∷◌, ◌++◌, append_assoc, sym, subst}
use Rattle.bridge.specs.PrintStates.{state_of}
use Rattle.bridge.specs.Printers.{Continues}
use Rattle.bridge.specs.Printing.{print_of, visible}
use Rattle.bridge.specs.TokenEvents.{step_of}
use Rattle.bridge.proofs.PrintStepLemmas.{carried}
use Rattle.bridge.proofs.printing.printer.Printer.put_event.Goals as goal

pub returns-then-is_none-clause-ok : goal.returns-then-is_none-clause-ok
returns-then-is_none-clause-ok c = carried c.put_next.result _ _
    (λ next steps has more.
    let one = step_of c.args.step.now ∷ [] in
    let before = subst (λ s. Continues s (visible (one ++ more)) (print_of (steps ++ (one ++ more)))) (sym c.self.view_is) (has (one ++ more)) in
    subst (λ all. Continues (state_of c.put_next.new.out) (visible more) (print_of all)) (sym (append_assoc steps one more))
    (next.puts more (print_of (steps ++ (one ++ more))) before))
    c.put_next.ensures.puts

pub returns-clause-ok : goal.returns-clause-ok
returns-clause-ok c = carried c.put_behind_quote.result _ _
    (λ puts steps has more.
    let one = step_of c.args.step.now ∷ [] in
    let before = subst (λ s. Continues s (visible (one ++ more)) (print_of (steps ++ (one ++ more)))) (sym c.self.view_is) (has (one ++ more)) in
    subst (λ all. Continues (state_of c.put_behind_quote.new.out) (visible more) (print_of all)) (sym (append_assoc steps one more))
    (puts more (print_of (steps ++ (one ++ more))) before))
    c.put_behind_quote.ensures.puts
