use Rattle.std.proofs.Common.{◌≡◌, ℕ, List, string_bytes, subst}
use Rattle.std.specs.Prelude.{OnOk}
use Rattle.step_report.proofs.ListLemmas.{three_parts}
use Rattle.step_report.proofs.notes.push_unequal.Goals as goal

pub returns : goal.returns
returns c =
    subst (λ (bytes : List ℕ). OnOk c.push_refusal.result
    (string_bytes c.push_refusal.new.out ≡ bytes))
    (three_parts (string_bytes c.args.out.now) (string_bytes c.push_str.new.self)
    (string_bytes c.push_both.new.out) _ _ _ c.in_ok-push_str.ensures.bytes
    c.in_ok-push_both.ensures)
    c.push_refusal.ensures
