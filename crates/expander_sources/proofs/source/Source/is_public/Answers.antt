use Rattle.std.proofs.Common.{◌∙◌, ap, sym}
use Rattle.bridge.specs.RelativeSpans.{moved_to}
use Rattle.std.specs.Rc.{rc_value}
use Rattle.tt.specs.Tops.{Top}
use Rattle.expander_sources.specs.Sources.{Item, is_public}
use Rattle.expander_sources.proofs.PartLemmas.{is_public-with}
use Rattle.expander_sources.proofs.source.Source.is_public.Goals as goal

pub returns : goal.returns
returns c =
    c.is_public.ensures ∙ ap (is_public) (c.iter.ensures ∙ ap (λ (t : Top). t.inner) (c.tree.ensures ∙ c.as_ref.ensures))
    ∙ sym (is_public-with (moved_to c.behind-self.inside.import.place) (rc_value c.behind-self.inside.import.tree).inner)
    ∙ ap (λ (i : Item). is_public i.piece) (c.behind-self.view_is ∙ c.item.ensures)
