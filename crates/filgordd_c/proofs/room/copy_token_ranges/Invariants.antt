use Rattle.std.proofs.Common.{◌≡◌, ◌≤◌, length, drop, take}
use Rattle.std.specs.Prelude.{map}
use Rattle.bridge.specs.PrintedRanges.{read_ranges}
use Rattle.filgordd_c.specs.Answered.{byte_range}
use Rattle.filgordd_c.proofs.room.copy_token_ranges.Given as goal

abbrev pub invariant-loop-range : goal.invariant-loop-range
invariant-loop-range l = record {
  rest : drop l.i (read_ranges l.expansion.printed) ≡ l.range-iterator;
  so_far : l.i ≤ length (read_ranges l.expansion.printed);
  enough : length (read_ranges l.expansion.printed) ≤ length l.room;
  copied : take l.i l.room ≡ map byte_range (take l.i (read_ranges l.expansion.printed));
  left : drop l.i l.room ≡ drop l.i l.initial.room;
}
