use Rattle.std.proofs.Common.{◌≡◌, ℕ, ◌<◌, get_or, length}
use Rattle.html_code.specs.Origins.{IsOriginNumber}
use Rattle.html_code.specs.declared.origin.Origin.TheVariants.{Own}
use Rattle.html_code.proofs.origin.origin_numbers.Given as goal

abbrev pub invariant-loop-origin : goal.invariant-loop-origin
invariant-loop-origin l = record {
  as_many : length l.numbers.items ≡ l.origin-index;
  each : (k : ℕ) → k < l.origin-index → IsOriginNumber l.starts (get_or l.origins k (Own 0)) (get_or l.numbers.items k 0);
}
