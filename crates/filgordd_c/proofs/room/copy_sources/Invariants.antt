use Rattle.std.proofs.Common.{length, ◌-◌, ◌≡◌, ◌≤◌, drop, take}
use Rattle.filgordd_c.proofs.room.copy_sources.Given as goal

abbrev pub invariant-loop-i : goal.invariant-loop-i
invariant-loop-i l = record {
  so_far : l.i ≤ length l.expansion.origins;
  enough : length l.expansion.origins ≤ length l.room;
  copied : take l.i l.room ≡ take l.i l.expansion.texts;
  left : drop l.i l.room ≡ drop l.i l.initial.room;
}

abbrev pub decreases-loop-i : goal.decreases-loop-i
decreases-loop-i l = l.tokens - l.i
