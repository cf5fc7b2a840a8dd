use Rattle.std.proofs.Common.{◌≡◌, List, true, ap, rules, subst, ◌∙◌}
use Rattle.std.specs.List.{list_all}
use Rattle.std.specs.Prelude.{map}
use Rattle.tt_data.specs.declared.span.Span.{Span}
use Rattle.bridge.specs.RelativeSpans.{is_anchored, own_place, shifted}
use Rattle.bridge.specs.declared.printing.relative_spans.Place.{Place}
use Rattle.expander_session.proofs.PartLemmas.{all_shifted, held_puts}
use Rattle.expander_session.proofs.absolute_spans.emit_shifted.Goals as goal

pub returns : goal.returns
returns c =
    let tokens = c.args.part.now.printed.tokens in
    let own_is : c.deref.result.now ≡ tokens = search rules in
    held_puts c.args.start c.args.starts.now c.args.steps.now _ c.args.part.now _ c.args.words.now c.emit_chunk_at.result
    (ap (λ (p : Place). map (shifted (record { own = own_place c.args.start; other = p })) tokens) c.base_at-other.ensures
    ∙ all_shifted c.args.start c.args.starts.now c.in-Some.anchor tokens
    (subst (λ (spans : List Span). list_all (is_anchored c.in-Some.anchor) spans ≡ true) own_is c.in-Some.ensures))
    c.requires c.emit_chunk_at.ensures
