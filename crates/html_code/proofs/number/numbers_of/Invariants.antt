use Rattle.std.proofs.Common.{◌≡◌, ℕ, ◌<◌, get_or, length}
use Rattle.html_code.specs.Numbers.{IsNumberAt}
use Rattle.html_code.proofs.number.numbers_of.Given as goal

abbrev pub invariant-loop-offset : goal.invariant-loop-offset
invariant-loop-offset l = record {
  as_many : length l.numbers.items ≡ l.offset-index;
  each : (k : ℕ) → k < l.offset-index → IsNumberAt l.starts (get_or l.offsets k 0) (get_or l.numbers.items k 0);
}
