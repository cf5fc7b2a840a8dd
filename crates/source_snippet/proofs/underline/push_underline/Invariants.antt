use Rattle.std.proofs.Common.{◌≡◌, ◌++◌, drop, string_bytes}
use Rattle.source_snippet.specs.Underlines.{underline}
use Rattle.source_snippet.proofs.underline.push_underline.Given as goal

abbrev pub invariant-loop-range : goal.invariant-loop-range
invariant-loop-range l =
    string_bytes l.out ++ underline l.mark l.line l.at (drop l.range-index l.ranges)
    ≡ string_bytes l.initial.out ++ underline l.mark l.line 0 l.ranges
