-- What is left of a limit of tokens.
use Rattle.std.proofs.Common.{◌≡◌, refl, sym, ap, ◌∙◌, ℕ, ◌+◌, ◌-◌, ◌<◌, ◌≤◌, Bool, true, false, Option, Some, None, option_map, arith}
use Rattle.std.specs.Prelude.{if◌then◌else◌, is_some, nat_lt, unwrap_or}
use Rattle.std.proofs.lemmas.Bool.Decides.{nat_tests}
use Rattle.mbe.specs.PutOut.{left_of}

-- some are too many, so more are
left_none : (m n k : ℕ) → left_of (Some m) n ≡ None → left_of (Some m) (n + k) ≡ None
left_none m n k e = go (nat_lt m n) (nat_lt m (n + k)) (grind (arith, nat_tests)) e
  where
    go : (b c : Bool) → (b ≡ true → c ≡ true) → (if b then None else Some (Some (m - n))) ≡ None → (if c then None else Some (Some (m - (n + k)))) ≡ None
    go true true h e = refl
    go true false h e = absurd (cc (h refl))
    go false c h e = absurd (cc e)

-- some are not, so more are as many behind them as are left
left_some : (m n k : ℕ) (rest : Option ℕ) → left_of (Some m) n ≡ Some rest → left_of (Some m) (n + k) ≡ left_of rest k
left_some m n k rest e = go (nat_lt m n) refl e
  where
    same : nat_lt m n ≡ false → (if nat_lt m (n + k) then None else Some (Some (m - (n + k)))) ≡ left_of (Some (m - n)) k
    same h =
        let less : m - (n + k) ≡ m - n - k = omega arith in
        let both : nat_lt m (n + k) ≡ nat_lt (m - n) k = grind (arith, nat_tests) in
        (λ i. if both i then None else Some (Some (less i)))

    go : (b : Bool) → nat_lt m n ≡ b → (if b then None else Some (Some (m - n))) ≡ Some rest → left_of (Some m) (n + k) ≡ left_of rest k
    go true h e = absurd (cc e)
    go false h e = let is : Some (m - n) ≡ rest = cc e in same h ∙ ap (λ o. left_of o k) is

pub left_passed : (most : Option ℕ) (n k : ℕ) → left_of most n ≡ None → left_of most (n + k) ≡ None
left_passed None n k e = absurd (cc e)
left_passed (Some m) n k e = left_none m n k e

pub left_more : (most : Option ℕ) (n k : ℕ) (rest : Option ℕ) → left_of most n ≡ Some rest → left_of most (n + k) ≡ left_of rest k
left_more None n k rest e = let is : None ≡ rest = cc e in ap (λ o. left_of o k) is
left_more (Some m) n k rest e = left_some m n k rest e

-- behind nothing all is left
pub left_nothing : (most : Option ℕ) → left_of most 0 ≡ Some most
left_nothing None = refl
left_nothing (Some m) =
    let free : nat_lt m 0 ≡ false = grind (arith, nat_tests) in
    let same : m - 0 ≡ m = omega arith in
    ap (λ b. if b then None else Some (Some (m - 0))) free ∙ ap (λ k. Some (Some k)) same

-- ---- behind a template

-- as many tokens as may be put out, where any number may
module _ (all : ℕ) where
  -- it puts out no more than is left
  pub left_within : (most : Option ℕ) (n k : ℕ) → k ≡ n → n ≤ unwrap_or most all → Some (option_map (λ m. m - k) most) ≡ left_of most n
  left_within None n k e less = refl
  left_within (Some m) n k e less =
      let free : nat_lt m n ≡ false = grind (arith, nat_tests) in
      sym (ap (λ b. if b then None else Some (Some (m - n))) free ∙ ap (λ i. Some (Some (m - i))) (sym e))

  -- or more
  pub left_over : (most : Option ℕ) (n : ℕ) → is_some most ≡ true → unwrap_or most all < n → None ≡ left_of most n
  left_over None n e less = absurd (cc e)
  left_over (Some m) n e less =
      let over : nat_lt m n ≡ true = grind (arith, nat_tests) in
      sym (ap (λ b. if b then None else Some (Some (m - n))) over)

  -- without a limit any number may be put out
  pub no_limit : (most : Option ℕ) → is_some most ≡ false → unwrap_or most all ≡ all
  no_limit None e = refl
  no_limit (Some m) e = absurd (cc e)
