use Rattle.std.proofs.Common.{[], ◌++◌, ap, sym, ◌∙◌, subst}
use Rattle.std.proofs.lemmas.List.{append-nil}
use Rattle.std.proofs.lemmas.Str.{IsUtf8-string_bytes}
use Rattle.bridge.specs.PrintStates.{Fits, state_of}
use Rattle.bridge.specs.Printers.{Continues}
use Rattle.bridge.specs.Printing.{print_of}
use Rattle.bridge.proofs.PrintStepLemmas.{cut}
use Rattle.bridge.proofs.printing.printer.Printer.finish.Goals as goal

pub undo-fault-requires : goal.undo-fault-requires
undo-fault-requires c =
    rw c.save-before.ensures
    (cut _ _ (IsUtf8-string_bytes c.self.inside.out.text) (IsUtf8-string_bytes c.end_with_spans.new.out.text) c.in-Err.ensures.grows.text)

pub invariant_of-result : goal.invariant_of-result
invariant_of-result c = subst Fits (sym (c.undo-fault.ensures.state (state_of c.self.inside.out) c.save-before.ensures c.in-Err.ensures.grows)) c.self.invariant

pub returns-in-Ok-clause-ok : goal.returns-in-Ok-clause-ok
returns-in-Ok-clause-ok c = λ steps has.
    let before = subst (λ s. Continues s [] (print_of (steps ++ []))) (sym c.self.view_is) (has []) in
    c.in-Ok.ensures.ends (print_of (steps ++ [])) before ∙ ap print_of (append-nil steps)
