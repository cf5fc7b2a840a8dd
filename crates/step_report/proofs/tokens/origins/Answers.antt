use Rattle.std.proofs.Common.{List, ap, arith, map, refl, ◌∙◌}
use Rattle.tt_data.specs.declared.span.Span.{Span}
use Rattle.serde_json.specs.Data.{Data, array}
use Rattle.serde_json.specs.View.{items_of, view}
use Rattle.serde_json.proofs.Views.{view-Array}
use Rattle.call_json.specs.Places.{count}
use Rattle.step_report.specs.Tokens.{span_numbers}
use Rattle.step_report.proofs.ListLemmas.{all_told}
use Rattle.step_report.proofs.SpanLemmas.{one_more_span}
use Rattle.step_report.proofs.tokens.origins.Goals as goal

pub loop-span-preserved : goal.loop-span-preserved
loop-span-preserved c =
    one_more_span c.args.spans.now c.loop-span.span-index _ (map view c.loop-span.list.items)
    (map view c.push_span.new.list.items) _ c.loop-span-test.true c.loop-span.invariant
    c.in_ok-push_span.ensures

pub returns : goal.returns
returns c =
    view-Array c.loop-span.list
    ∙ ap (λ (ds : List Data). array (items_of ds))
    (all_told (λ (ss : List Span). map count (span_numbers ss)) c.args.spans.now
    c.loop-span.span-index (map view c.loop-span.list.items) _
    (omega (arith, c.loop-span-test.false)) refl c.loop-span.invariant)
