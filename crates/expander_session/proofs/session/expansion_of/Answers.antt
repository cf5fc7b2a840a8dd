use Rattle.std.proofs.Common.{ap, refl, sym, ◌∙◌, length, map}
use Rattle.tt_data.specs.declared.span.Span.{Span}
use Rattle.bridge.specs.PrintedRanges.{printed_ranges, read_ranges}
use Rattle.bridge.specs.Printing.{Print}
use Rattle.expander_model.specs.Faults.{in_order}
use Rattle.expander_model.specs.Printing.{steps_of}
use Rattle.expander_session.proofs.PrintingLemmas.{text_is, tokens_bare, origins_are, texts_are}
use Rattle.expander_session.proofs.session.expansion_of.Goals as goal

pub returns : goal.returns
returns c = λ steps has.
    let shows = c.in_ok-text.ensures.printed steps has in
    let text = ap (λ (p : Print). p.text) shows in
    record {
      printed = text ∙ text_is steps;
      faults = c.in_ok-sort_faults.ensures ∙ ap in_order (c.in_ok-text.ensures.faults steps has);
      origins = ap (λ (p : Print). map (λ (s : Span). s.range) p.tokens) shows ∙ origins_are steps;
      texts = ap (λ (p : Print). map (λ (s : Span). s.anchor) p.tokens) shows ∙ texts_are steps;
      ranges = ap read_ranges text ∙ c.tokens_are_where_they_are_printed.ensures.printed (steps_of steps) ∙ ap printed_ranges (sym (tokens_bare steps));
      expanded = refl;
    }

pub invariant_of-result : goal.invariant_of-result
invariant_of-result c =
    let all = c.requires.0 in
    let shows = c.in_ok-text.ensures.printed all c.requires.1 in
    ap (λ (p : Print). length (read_ranges p.text)) shows ∙ c.tokens_are_where_they_are_printed.ensures.count (steps_of all) ∙ sym (ap (λ (p : Print). length p.tokens) shows)
