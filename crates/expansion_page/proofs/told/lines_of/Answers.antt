use Rattle.std.proofs.Common.{List, ℕ, string_bytes, subst}
use Rattle.std.specs.Prelude.{map}
use Rattle.expander_run.specs.Spots.{IsSpot}
use Rattle.expansion_page.proofs.ToldLemmas.{lines_more, pushed}
use Rattle.expansion_page.proofs.told.lines_of.Goals as goal

pub loop-fault-preserved : goal.loop-fault-preserved
loop-fault-preserved c = record {
  lines =
      lines_more c.args.text.now c.as_bytes.result.now _ _ _ _ _ (map string_bytes c.loop-fault.lines.items) (map string_bytes c.push.new.self.items)
      c.args.faults.now c.loop-fault.fault-index _ c.loop-fault-test.true c.loop-fault.invariant.lines c.new-line.ensures.bytes
      c.as_bytes.ensures.value c.spot_of-spot.ensures.line c.spot_of-spot.ensures.column c.fault_words.ensures c.in_ok-push_line.ensures
      (pushed string_bytes c.loop-fault.lines.items c.push.new.self.items _ c.in_ok-push.ensures.items);
  spot = subst (λ (t : List ℕ). IsSpot t c.spot_of-spot.result) c.as_bytes.ensures.value c.spot_of-spot.ensures.spot;
}
