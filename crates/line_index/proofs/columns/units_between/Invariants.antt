use Rattle.std.proofs.Common.{◌≡◌, ◌*◌, ◌≤◌, sum_by, take}
use Rattle.line_index.specs.Lines.{units}
use Rattle.line_index.proofs.columns.units_between.Given as goal

-- the units so far
abbrev pub invariant-loop-byte : goal.invariant-loop-byte
invariant-loop-byte l = record {
  so_far : l.count ≡ sum_by units (take l.byte-index l.byte-items);
  few : l.count ≤ 2 * l.byte-index;
}
