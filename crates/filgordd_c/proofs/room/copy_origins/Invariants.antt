use Rattle.std.proofs.Common.{length, ◌-◌, ◌≡◌, ◌≤◌, drop, take}
use Rattle.std.specs.Prelude.{map}
use Rattle.filgordd_c.specs.Answered.{byte_range}
use Rattle.filgordd_c.proofs.room.copy_origins.Given as goal

abbrev pub invariant-loop-i : goal.invariant-loop-i
invariant-loop-i l = record {
  so_far : l.i ≤ length l.expansion.origins;
  enough : length l.expansion.origins ≤ length l.room;
  copied : take l.i l.room ≡ map byte_range (take l.i l.expansion.origins);
  left : drop l.i l.room ≡ drop l.i l.initial.room;
}

abbrev pub decreases-loop-i : goal.decreases-loop-i
decreases-loop-i l = l.tokens - l.i
