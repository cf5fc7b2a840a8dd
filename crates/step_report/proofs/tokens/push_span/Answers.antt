use Rattle.std.proofs.Common.{map}
use Rattle.serde_json.specs.View.{view}
use Rattle.step_report.proofs.SpanLemmas.{three_more}
use Rattle.step_report.proofs.tokens.push_span.Goals as goal

pub returns : goal.returns
returns c =
    three_more (map view c.args.list.now.items) (map view c.push_number.new.list.items)
    (map view c.push_number-2.new.list.items) (map view c.push_number-3.new.list.items) _ _ _
    c.in_ok-push_number.ensures c.in_ok-push_number-2.ensures c.in_ok-push_number-3.ensures
