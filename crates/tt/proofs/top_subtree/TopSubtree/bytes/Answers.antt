use Rattle.std.proofs.Common.{ap, sym, ◌∙◌, []}
use Rattle.token_bytes.specs.Packing.{records}
use Rattle.tt.specs.Tops.{tokens_of}
use Rattle.tt.proofs.top_subtree.TopSubtree.bytes.Goals as goal

pub returns : goal.returns
returns c = c.bytes.ensures ∙ ap (records []) (sym (ap tokens_of (sym c.self.view_is) ∙ c.self.invariant.0))
