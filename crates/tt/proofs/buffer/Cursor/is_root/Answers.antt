use Rattle.std.proofs.Common.{ap, sym, ◌∙◌}
use Rattle.std.proofs.lemmas.Bool.{eqb-true, eq-eqb}
use Rattle.tt.specs.CursorTokens.{start_in}
use Rattle.tt.proofs.CursorLemmas.{stood, root_of}
use Rattle.tt.proofs.buffer.Cursor.is_root.Goals as goal

pub returns : goal.returns
returns c =
    let stands = stood _ _ _ _ c.self.view_is c.self.invariant.0 in
    rw c.count.ensures (
      λ e. root_of _ (sym stands.start_is ∙ eqb-true _ 0 e),
      λ e. eq-eqb _ 0 (stands.start_is ∙ ap start_in e),
    )
