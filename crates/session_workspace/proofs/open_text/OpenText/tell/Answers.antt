use Rattle.std.proofs.Common.{◌≡◌, false, rules}
use Rattle.session_workspace.specs.OpenTexts.{WasTold}
use Rattle.session_workspace.proofs.open_text.OpenText.tell.Goals as goal
use Rattle.session_workspace.proofs.open_text.OpenText.tell.Goals.{else-not-is_own-via-then-not-is_own+else-was_told, else-not-is_own-via-else-not-is_own}

pub returns : goal.returns
returns c =
    let changed : c.args.is_own ≡ false → WasTold c.args.self.now.told c.expansion-given.result → ⊥ =
    λ own told. elim (c.else-not-is_own.branch) [
      | else-not-is_own-via-then-not-is_own+else-was_told w ↦
          let was_told = w.was_told.ensures in
          let not_told = rw w.if-was_told.false at was_told in
          not_told (rw c.note.ensures.told told)
      | else-not-is_own-via-else-not-is_own w ↦ cc
    ] in
    search rules
