-- Each number is put in front of those that were put before.
use Rattle.std.proofs.Common.{◌≡◌, ℕ, ◌+◌, ◌-◌, ◌<◌, ◌≤◌, List, Some, cond, suc, length, drop, get_or, arith, subst, ap, ◌∙◌}
use Rattle.std.proofs.lemmas.Grind.{common_steps}
use Rattle.std.proofs.Math.Seq.{drop-cons}
use Rattle.std.specs.Prelude.{nat_eq}
use Rattle.std.specs.BTreeMap.{get}
use Rattle.std.specs.List.{position_from}
use Rattle.std.specs.Ordering.{nat_cmp}
use Rattle.crate_picks.proofs.first_index.first_index.Goals as goal

-- the number at an index stands first there, or where it stood first behind it
step : (xs : List ℕ) (i j n : ℕ) → j + 1 ≡ i → i ≤ length xs → position_from (λ m. nat_eq m n) j (drop j xs)
    ≡ cond (nat_eq (get_or xs j 0) n) (Some j) (position_from (λ m. nat_eq m n) i (drop i xs))
step xs i j n is within =
    let inside : j < length xs = omega arith in
    let suc_is : suc j ≡ j + 1 = omega arith in
    ap (position_from (λ m. nat_eq m n) j) (drop-cons xs j 0 inside)
    ∙ ap (λ (k : ℕ). cond (nat_eq (get_or xs j 0) n) (Some j) (position_from (λ m. nat_eq m n) (j + 1) (drop k xs))) suc_is
    ∙ ap (λ (k : ℕ). cond (nat_eq (get_or xs j 0) n) (Some j) (position_from (λ m. nat_eq m n) k (drop k xs))) is

pub loop-i-preserved : goal.loop-i-preserved
loop-i-preserved c = record {
  within = omega arith;
  found = λ n. let last : (c.loop-i.i - 1) + 1 ≡ c.loop-i.i = omega arith in
      let s = step c.args.numbers.now c.loop-i.i (c.loop-i.i - 1) n last c.loop-i.invariant.within in
      grind (arith, common_steps, s, c.loop-i.invariant.found n);
}

pub returns : goal.returns
returns c = λ n.
    let none : c.loop-i.i ≡ 0 = omega arith in
    let P : ℕ → Type 0 = λ k. get nat_cmp c.loop-i.first n ≡ position_from (λ m. nat_eq m n) k (drop k c.args.numbers.now) in
    subst P none (c.loop-i.invariant.found n)
