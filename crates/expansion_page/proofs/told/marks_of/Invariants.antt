use Rattle.std.proofs.Common.{◌≡◌, ◌++◌, drop, string_bytes}
use Rattle.std.specs.Prelude.{map}
use Rattle.expansion_page.proofs.told.marks_of.Given as goal

abbrev pub invariant-loop-i : goal.invariant-loop-i
invariant-loop-i l = record {
  starts : map (λ m. m.start) l.marks.items ++ map (λ f. f.range.start) (drop l.i l.faults) ≡ map (λ f. f.range.start) l.faults;
  lines : map (λ m. m.told.now) l.marks.items ++ map string_bytes (drop l.i l.lines) ≡ map string_bytes l.lines;
}
