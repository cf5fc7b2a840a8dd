use Rattle.std.proofs.Common.{List, ap, arith, ◌∙◌}
use Rattle.serde_json.specs.Data.{Data, array}
use Rattle.serde_json.specs.View.{items_of}
use Rattle.serde_json.proofs.Views.{view-Array}
use Rattle.call_json.specs.Rules.{rule}
use Rattle.call_json.proofs.RuleLemmas.{all_told, one_more}
use Rattle.call_json.proofs.rules.all_rules.Goals as goal

pub loop-stop-preserved : goal.loop-stop-preserved
loop-stop-preserved c =
    one_more (rule c.args.text.now c.args.call.now) c.loop-stop.list.items c.push.new.self.items c.args.stops.now c.loop-stop.stop-index
    c.stop-item.result _ c.loop-stop-test.true c.stop-item.is c.loop-stop.invariant c.in_ok-rule.ensures c.in_ok-push.ensures.items

pub returns : goal.returns
returns c =
    view-Array c.loop-stop.list
    ∙ ap (λ (ds : List Data). array (items_of ds))
    (all_told (rule c.args.text.now c.args.call.now) c.loop-stop.list.items c.args.stops.now c.loop-stop.stop-index
    (omega (arith, c.loop-stop-test.false)) c.loop-stop.invariant)
