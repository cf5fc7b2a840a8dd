use Rattle.std.proofs.Common.{◌≡◌, ◌≤◌, ◌-◌, length}
use Rattle.line_index.specs.Lines.{column_of, line_of}
use Rattle.line_index.proofs.positions.position_behind.Given as goal

-- the line and the column of the byte that is next
abbrev pub invariant-loop-end : goal.invariant-loop-end
invariant-loop-end l = record {
  order : l.start ≤ l.at;
  line : l.line ≡ line_of l.text l.start;
  column : l.column ≡ column_of l.text l.start;
}

abbrev pub decreases-loop-end : goal.decreases-loop-end
decreases-loop-end l = length l.text - l.start
