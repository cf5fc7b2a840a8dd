use Rattle.std.proofs.lemmas.List.{get_or_default}
use Rattle.serde_json.specs.View.{view}
use Rattle.reply_json.specs.Explanations.{Explains}
use Rattle.reply_json.proofs.ExplainedLemmas.{one_more}
use Rattle.reply_json.proofs.explained.explained_list.Goals as goal

pub loop-fault-preserved : goal.loop-fault-preserved
loop-fault-preserved g c = record {
  spot = c.spot_at-spot.ensures.spot;
  all = one_more (Explains (g.G.FragmentGrammar.answer c.args.question.now.grammar.now) c.args.question.now.text.now)
      c.args.faults.now c.loop-fault.fault-index _ c.loop-fault.list.items c.add.new.list.items c.in_ok-value.value
      c.loop-fault-test.true
      (get_or_default c.args.faults.now c.loop-fault.fault-index _ _ c.loop-fault-test.true) c.loop-fault.invariant.all
      (c.in_ok-found.found, c.in_ok-found.ensures, c.in_ok-value.ensures) c.in_ok-add.ensures;
}
