use Rattle.std.proofs.Common.{◌≡◌, ◌-◌, ◌≤◌, length, take}
use Rattle.pieced_text.proofs.difference.more_front.Given as goal

abbrev pub invariant-loop-at : goal.invariant-loop-at
invariant-loop-at l = record {
  old : l.at ≤ length l.old;
  new : l.at ≤ length l.new;
  same : take l.at l.old ≡ take l.at l.new;
}

abbrev pub decreases-loop-at : goal.decreases-loop-at
decreases-loop-at l = l.most - l.at
