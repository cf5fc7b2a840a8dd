use Rattle.std.proofs.Common.{◌≡◌, ◌+◌, ◌-◌, ◌≤◌, drop, length}
use Rattle.line_index.specs.Lines.{line_start}
use Rattle.line_index.proofs.lines.line_start.Given as goal

-- what is left of the text has what is left of the lines
abbrev pub invariant-loop : goal.invariant-loop
invariant-loop l = record {
  within : l.start ≤ length l.text;
  so_far : l.start + line_start (drop l.start l.text) (l.line - l.counter) ≡ line_start l.text l.line;
}
