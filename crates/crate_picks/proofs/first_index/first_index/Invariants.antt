use Rattle.std.proofs.Common.{◌≡◌, ℕ, ◌≤◌, length, drop}
use Rattle.std.specs.Prelude.{nat_eq}
use Rattle.std.specs.BTreeMap.{get}
use Rattle.std.specs.Ordering.{nat_cmp}
use Rattle.std.specs.List.{position_from}
use Rattle.crate_picks.proofs.first_index.first_index.Given as goal

abbrev pub invariant-loop-i : goal.invariant-loop-i
invariant-loop-i l = record {
  within : l.i ≤ length l.numbers;
  found : (n : ℕ) → get nat_cmp l.first n ≡ position_from (λ m. nat_eq m n) l.i (drop l.i l.numbers);
}

abbrev pub decreases-loop-i : goal.decreases-loop-i
decreases-loop-i l = l.i
