-- What is left to list where one more iteration is open.
use Rattle.std.proofs.Common.{◌≡◌, refl, sym, ap, ◌∙◌, ℕ, suc, ◌+◌, ◌*◌, ◌<◌, ◌≤◌, arith}
use Rattle.std.proofs.Common.{List, [], ◌∷◌, ◌++◌, length, append_assoc, append-nil, Some, None}
use Rattle.std.proofs.lemmas.List.{map-append}
use Rattle.std.specs.declared.alloc.Global.{Global}
use Rattle.std.specs.declared.vec.Vec.{Vec}
use Rattle.mbe_matcher.specs.Bindings.{rounds, value}
use Rattle.mbe_matcher.specs.Bound.{standing_for, values_of}
use Rattle.mbe_matcher.specs.Counts.{count_values}
use Rattle.mbe_matcher.specs.declared.bindings.Binding as code
use Rattle.mbe_matcher.proofs.BoundLemmas.{standing-Rounds}
use Rattle.mbe_matcher.proofs.CountLemmas.{count_one, count-Rounds, count-some}
use Rattle.rule_bindings.specs.BoundValues.{BoundValue, one_value, values_from, values_in}
use Rattle.rule_bindings.specs.Open.{left_values, numbers, rest_values, weight_around, weight_of}
use Rattle.rule_bindings.specs.declared.open.Open.{Open}

-- what follows the innermost iteration, and what follows the others
pub rest-push : (n : List ℕ) (os : List Open) (o : Open) (around : List ℕ)
    → rest_values n around (os ++ (o ∷ []))
    ≡ values_from n (around ++ numbers os) (suc o.number) (values_of o.rest.now)
    ++ rest_values n around os
rest-push n [] o around = simp append-nil
rest-push n (k ∷ os) o around =
    let inner = rest-push n os o (around ++ (k.number ∷ [])) in
    let after = values_from n around (suc k.number) (values_of k.rest.now) in
    ap (λ l. l ++ after) inner ∙ simp append_assoc

pub weight-push : (os : List Open) (o : Open)
    → weight_around (os ++ (o ∷ []))
    ≡ weight_around os + suc (2 * count_values (values_of o.rest.now))
weight-push [] o = omega arith
weight-push (k ∷ os) o = let i = weight-push os o in omega (arith, i)

module _ (os : List Open) (o : Open) (first : code.Binding) where
  -- an iteration is opened: its value, those after it, and what is left around it
  pub opened-first : (n : List ℕ)
      → left_values n (os ++ (o ∷ [])) (Some (standing_for first))
      ≡ values_from n (numbers os) o.number (value (standing_for first) (values_of o.rest.now))
      ++ rest_values n [] os
  opened-first n =
      let rest = values_from n (numbers os) (suc o.number) (values_of o.rest.now) in
      ap (λ ns. values_in n ns (standing_for first) ++ rest_values n [] (os ++ (o ∷ [])))
      (map-append (λ (p : Open). p.number) os (o ∷ []))
      ∙ ap (λ l. values_in n (numbers os ++ (o.number ∷ [])) (standing_for first) ++ l)
      (rest-push n os o [])
      ∙ sym (append_assoc (values_in n (numbers os ++ (o.number ∷ [])) (standing_for first)) rest
      (rest_values n [] os))

  -- that is less than before
  pub opened-lighter : (after : List Open) (values : List code.Binding)
      → after ≡ os ++ (o ∷ []) → values ≡ first ∷ o.rest.now
      → weight_of (Some (standing_for first)) + weight_around after
      ≤ 2 * count_values (values_of values) + weight_around os
  opened-lighter after values is all =
      let some = count-some first in
      let around = ap weight_around is ∙ weight-push os o in
      let whole = ap (λ vs. count_values (values_of vs)) all in
      omega (arith, some, around, whole)

-- ---- a binding, by what it is

-- a list of values is what its values are
rounds-in : (n around : List ℕ) (b : code.Binding) (v : Vec code.Binding Global)
    → b ≡ code.Rounds v → values_in n around (standing_for b) ≡ values_in n around (rounds (values_of v.items))
rounds-in n around b v is =
    ap (λ c. values_in n around (standing_for c)) is ∙ ap (values_in n around) (standing-Rounds v)

-- a list of no values gives one value that says so
pub no-rounds : (n : List ℕ) (os here : List Open) (b : code.Binding) (v : Vec code.Binding Global)
    (found new : List BoundValue) → b ≡ code.Rounds v → v.items ≡ [] → here ≡ os
    → new ≡ found ++ one_value n (numbers here) None
    → new ++ rest_values n [] os ≡ found ++ left_values n os (Some (standing_for b))
no-rounds n os here b v found new is none same added =
    let whole : values_in n (numbers os) (standing_for b) ≡ one_value n (numbers os) None =
    rounds-in n (numbers os) b v is
    ∙ ap (λ vs. values_in n (numbers os) (rounds (values_of vs))) none in
    ap (λ l. l ++ rest_values n [] os)
    (added ∙ ap (λ l. found ++ one_value n (numbers l) None) same)
    ∙ append_assoc found (one_value n (numbers os) None) (rest_values n [] os)
    ∙ ap (λ l. found ++ (l ++ rest_values n [] os)) (sym whole)

some-values : (n around : List ℕ) (vs : List code.Binding) → 0 < length vs
    → values_in n around (rounds (values_of vs)) ≡ values_from n around 0 (values_of vs)
some-values n around [] h = absurd (omega (arith, h))
some-values n around (b ∷ vs) h = refl

-- another one gives what its first value does, and those after it
pub some-rounds : (n : List ℕ) (os : List Open) (b : code.Binding) (v : Vec code.Binding Global)
    (vs : List code.Binding) → b ≡ code.Rounds v → 0 < length v.items → vs ≡ v.items
    → values_from n (numbers os) 0 (values_of vs) ++ rest_values n [] os
    ≡ left_values n os (Some (standing_for b))
some-rounds n os b v vs is some same =
    ap (λ l. values_from n (numbers os) 0 (values_of l) ++ rest_values n [] os) same
    ∙ ap (λ l. l ++ rest_values n [] os)
    (sym (rounds-in n (numbers os) b v is ∙ some-values n (numbers os) v.items some))

-- and is lighter than the list
pub rounds-weight : (b : code.Binding) (v : Vec code.Binding Global) (vs : List code.Binding)
    → b ≡ code.Rounds v → vs ≡ v.items
    → weight_of (Some (standing_for b)) ≡ suc (2 * count_values (values_of vs))
rounds-weight b v vs is same =
    let counted = ap count_one is ∙ count-Rounds v in
    let all = ap (λ l. count_values (values_of l)) same in
    omega (arith, counted, all)

-- ---- iterations that are left behind

-- the innermost open iteration is left, and the next one of its list is entered
pub next-left : (n : List ℕ) (os old : List Open) (o : Open) → old ≡ os ++ (o ∷ [])
    → values_from n (numbers os) (o.number + 1) (values_of o.rest.now) ++ rest_values n [] os
    ≡ rest_values n [] old
next-left n os old o is =
    sym (ap (rest_values n []) is ∙ rest-push n os o []
    ∙ ap (λ k. values_from n (numbers os) k (values_of o.rest.now) ++ rest_values n [] os)
    (omega arith))

pub next-lighter : (os old : List Open) (o : Open) → old ≡ os ++ (o ∷ [])
    → weight_around old ≡ weight_around os + suc (2 * count_values (values_of o.rest.now))
next-lighter os old o is = ap weight_around is ∙ weight-push os o
