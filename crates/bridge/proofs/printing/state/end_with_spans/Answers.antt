use Rattle.std.proofs.Common.{List, ap, ◌∙◌}
use Rattle.std.specs.Prelude.{string_bytes}
use Rattle.tt_data.specs.declared.span.Span.{Span}
use Rattle.bridge.specs.Printing.{Print}
use Rattle.bridge.proofs.printing.state.end_with_spans.Goals as goal

pub returns-in-Ok-clause-ends : goal.returns-in-Ok-clause-ends
returns-in-Ok-clause-ends c = λ all p.
    let o = c.end.new.out in
    let with_spans : List Span → Print = λ l. record { text = string_bytes o.text; tokens = l; left_out = o.left_out.items } in
    ap with_spans c.in-Ok.ensures.ok ∙ c.in_ok-end.ensures.ends all p
