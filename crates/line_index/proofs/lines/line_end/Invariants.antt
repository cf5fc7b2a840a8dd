use Rattle.std.proofs.Common.{◌≤◌, ◌-◌, length}
use Rattle.line_index.specs.LineEnds.{NoneEnds}
use Rattle.line_index.proofs.lines.line_end.Given as goal

-- no line ends in what is passed
abbrev pub invariant-loop-passed : goal.invariant-loop-passed
invariant-loop-passed l = record {
  order : l.fn.at ≤ l.from;
  within : l.from ≤ length l.text;
  none : NoneEnds l.text l.fn.at l.from;
}

abbrev pub decreases-loop-passed : goal.decreases-loop-passed
decreases-loop-passed l = length l.text - l.from
