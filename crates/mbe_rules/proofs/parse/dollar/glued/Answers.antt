use Rattle.std.proofs.Common.{◌∙◌, ap, List, ◌++◌}
use Rattle.tt_data.specs.declared.leaf.Punct.{Punct}
use Rattle.tt.specs.Glued.{glued_at}
use Rattle.mbe_rules.proofs.GluedLemmas.{glued-read}
use Rattle.mbe_rules.proofs.parse.dollar.glued.Goals as goal

pub returns : goal.returns
returns c =
    let copied = c.in_ok-extend_from_slice.ensures.items ∙ ap (λ (xs : List Punct). xs ++ c.as_slice.result.now) c.new-puncts.ensures.items ∙ c.as_slice.ensures.value in
    glued-read c.args.first c.args.trees.now c.extend_from_slice.new.self.items c.glued_to-glued.result.1
    (ap (λ (xs : List Punct). (xs, c.glued_to-glued.result.1)) copied ∙ c.glued_to-glued.ensures ∙ ap (glued_at c.args.first) c.copied.ensures)
