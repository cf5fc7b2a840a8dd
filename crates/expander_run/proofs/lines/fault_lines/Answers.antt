use Rattle.std.proofs.Common.{ℕ, List, subst}
use Rattle.expander_run.proofs.LineLemmas.{one_more}
use Rattle.expander_run.specs.Spots.{IsSpot}
use Rattle.expander_run.proofs.lines.fault_lines.Goals as goal

pub loop-fault-preserved : goal.loop-fault-preserved
loop-fault-preserved c = record {
  lines =
      one_more c.args.text.now c.as_bytes.result.now _ _ _ c.args.faults.now c.loop-fault.fault-index _ _ _ c.loop-fault-test.true c.as_bytes.ensures.value
      c.loop-fault.invariant.lines c.spot_of-spot.ensures.line c.spot_of-spot.ensures.column c.fault_words.ensures c.in_ok-push_line.ensures;
  spot = subst (λ (t : List ℕ). IsSpot t c.spot_of-spot.result) c.as_bytes.ensures.value c.spot_of-spot.ensures.spot;
}
