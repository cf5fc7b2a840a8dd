use Rattle.std.proofs.Common.{◌∙◌, ap}
use Rattle.tt.specs.Views.{forest}
use Rattle.tt.specs.Places.{first_token}
use Rattle.tt.proofs.CursorLemmas.{first_is, ends}
use Rattle.tt.proofs.buffer.Cursor.token_tree.Goals as goal

pub returns : goal.returns
unfolding forest
returns c =
    let first = c.first.ensures ∙ (first_is _ c.after.result.whole ∙ ap first_token c.after.ensures) in
    record { token = first; at_end = ends _ _ first }
