use Rattle.std.proofs.lemmas.Str.{IsUtf8-string_bytes}
use Rattle.bridge.specs.PrintStates.{state_of}
use Rattle.bridge.proofs.PrintStepLemmas.{cut}
use Rattle.bridge.proofs.printing.printer.put_behind_quote.Goals as goal

pub undo-requires : goal.undo-requires
undo-requires c =
    rw c.save-before.ensures
    (cut _ _ (IsUtf8-string_bytes c.args.out.now.text) (IsUtf8-string_bytes c.put_event.new.out.text) c.put_event.ensures.grows.text)

pub returns-in-Err-clause-err : goal.returns-in-Err-clause-err
returns-in-Err-clause-err c = c.undo.ensures.state (state_of c.args.out.now) c.save-before.ensures c.put_event.ensures.grows
