-- What is within limits is within larger ones.
use Rattle.std.proofs.Common.{◌≡◌, ◌≤◌, ◌-◌, ℕ, Bool, true, false, List, [], ◌∷◌, Option, Some, None, refl, arith, option_map, if◌then◌else◌}
use Rattle.std.specs.Prelude.{◌||◌, nat_lt}
use Rattle.std.proofs.lemmas.Bool.Decides.{nat_tests}
use Rattle.expander_model.specs.Limits.{Noted, definition, tried, burst, passed_at_once, until_passed}

none_before : {X Y : Type 0} → (g : X → Y) (o : Option X) → option_map g o ≡ None → o ≡ None
none_before g None e = refl
none_before g (Some x) e = absurd (cc e)

none_behind : {X Y : Type 0} → (g : X → Y) (o : Option X) → o ≡ None → option_map g o ≡ None
none_behind g None e = refl
none_behind g (Some x) e = absurd (cc e)

-- a limit that is not passed
not_passed : {X : Type 0} → (b : Bool) (x : X) (o : Option X) → (if b then Some x else o) ≡ None → (b ≡ false) × (o ≡ None)
not_passed true x o e = absurd (cc e)
not_passed false x o e = (refl, e)

passes_none : {X : Type 0} → (b : Bool) (x : X) (o : Option X) → b ≡ false → o ≡ None → (if b then Some x else o) ≡ None
passes_none true x o e h = absurd (cc e)
passes_none false x o e h = h

fewer : (calls more tokens larger c n : ℕ) → calls ≤ more → tokens ≤ larger → (nat_lt calls c || nat_lt tokens n) ≡ false
    → (nat_lt more c || nat_lt larger n) ≡ false
fewer calls more tokens larger c n h k e = grind (arith, nat_tests)

pub within_more : {D : Type 0} → (notes : List (List ℕ × Option (Noted D))) (calls more tokens larger : ℕ) → calls ≤ more → tokens ≤ larger
    → until_passed calls tokens notes ≡ None → until_passed more larger notes ≡ None
within_more [] calls more tokens larger h k e = refl
within_more ((key, Some burst) ∷ notes) calls more tokens larger h k e =
    none_behind _ (until_passed more larger notes) (within_more notes calls more tokens larger h k (none_before _ (until_passed calls tokens notes) e))
within_more ((key, Some (tried c n)) ∷ notes) calls more tokens larger h k e =
    let parts = not_passed (nat_lt calls c || nat_lt tokens n) passed_at_once (until_passed (calls - c) (tokens - n) notes) e in
    passes_none (nat_lt more c || nat_lt larger n) passed_at_once (until_passed (more - c) (larger - n) notes)
    (fewer calls more tokens larger c n h k parts.0)
    (within_more notes (calls - c) (more - c) (tokens - n) (larger - n) (omega (arith, h)) (omega (arith, k)) parts.1)
within_more ((key, Some (definition d)) ∷ notes) calls more tokens larger h k e =
    none_behind _ (until_passed more larger notes) (within_more notes calls more tokens larger h k (none_before _ (until_passed calls tokens notes) e))
within_more ((key, None) ∷ notes) calls more tokens larger h k e =
    none_behind _ (until_passed more larger notes) (within_more notes calls more tokens larger h k (none_before _ (until_passed calls tokens notes) e))
