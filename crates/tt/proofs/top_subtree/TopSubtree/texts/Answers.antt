use Rattle.std.proofs.Common.{ap, sym, ◌∙◌, []}
use Rattle.token_bytes.specs.Packing.{table_after}
use Rattle.tt.specs.Tops.{tokens_of}
use Rattle.tt.proofs.top_subtree.TopSubtree.texts.Goals as goal

pub returns : goal.returns
returns c = c.texts.ensures ∙ ap (table_after []) (sym (ap tokens_of (sym c.self.view_is) ∙ c.self.invariant.0))
