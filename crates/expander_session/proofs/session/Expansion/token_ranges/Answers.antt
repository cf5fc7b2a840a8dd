-- As many ranges as tokens: so it is of every expansion.
use Rattle.std.proofs.Common.{◌≡◌, ap, length, rules, sym, ◌∙◌}
use Rattle.std.proofs.lemmas.List.{length-map}
use Rattle.std.specs.Prelude.{string_bytes}
use Rattle.tt_data.specs.declared.span.Span.{Span}
use Rattle.bridge.specs.PrintedRanges.{read_ranges}
use Rattle.expander_session.specs.Expanded.{Expanded}
use Rattle.expander_session.proofs.session.Expansion.token_ranges.Goals as goal

pub returns-clause-count : goal.returns-clause-count
returns-clause-count c =
    let same : c.token_ranges.result ≡ read_ranges (string_bytes c.self.inside.printed) = search rules in
    ap length same ∙ c.self.invariant ∙ sym (length-map c.self.inside.origins (λ (s : Span). s.range)) ∙ ap (λ (e : Expanded). length e.origins) c.self.view_is
