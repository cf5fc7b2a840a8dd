use Rattle.std.proofs.Common.{◌∙◌, ap, sym}
use Rattle.bridge.specs.RelativeSpans.{moved_to}
use Rattle.std.specs.Rc.{rc_value}
use Rattle.tt.specs.Tops.{Top}
use Rattle.expander_sources.specs.Sources.{Item}
use Rattle.expander_model.specs.Definitions.{has_attribute}
use Rattle.expander_sources.proofs.PartLemmas.{has_attribute-with}
use Rattle.expander_sources.proofs.source.Source.has_attribute.Goals as goal

pub returns : goal.returns
returns c =
    c.has_attribute.ensures ∙ ap (has_attribute c.args.word.now) (c.iter.ensures ∙ ap (λ (t : Top). t.inner) (c.tree.ensures ∙ c.as_ref.ensures))
    ∙ sym (has_attribute-with (moved_to c.behind-self.inside.import.place) c.args.word.now (rc_value c.behind-self.inside.import.tree).inner)
    ∙ ap (λ (i : Item). has_attribute c.args.word.now i.piece) (c.behind-self.view_is ∙ c.item.ensures)
