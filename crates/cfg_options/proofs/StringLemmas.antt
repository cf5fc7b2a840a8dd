-- The text of a string, unit by unit.
use Rattle.std.proofs.Common.{◌≡◌, ℕ, zero, suc, ◌≤◌, ◌<◌, Bool, List, [], ◌∷◌, ◌++◌, Option, Some, None, option_map, length, refl, sym, ap, ◌∙◌, arith, append_assoc}
use Rattle.small_grammar.specs.Text.{◌>>=◌}
use Rattle.cfg_options.specs.Strings.{unescaped}
use Rattle.cfg_options.specs.StringSteps.{unit_at}

pub nothing_in_front : (out : List ℕ) (o : Option (List ℕ)) → out ≡ [] → o ≡ option_map (λ back. out ++ back) o
nothing_in_front out None e = refl
nothing_in_front out (Some back) e = sym (ap (λ f. Some (f ++ back)) e)

put_on : (out front : List ℕ) (o : Option (List ℕ)) → option_map (λ back. out ++ back) (o >>= λ back. Some (front ++ back)) ≡ option_map (λ back. (out ++ front) ++ back) o
put_on out front None = refl
put_on out front (Some back) = ap Some (sym (append_assoc out front back))

abbrev both : List ℕ → List ℕ → Option (List ℕ × List ℕ)
both front after = Some (front, after)

-- after one more unit
pub unit_on : (is_raw : Bool) (n : ℕ) (out rest front after : List ℕ) (all : Option (List ℕ))
    → length rest ≤ n → length after < length rest → unit_at is_raw rest ≡ both front after
    → all ≡ option_map (λ back. out ++ back) (unescaped is_raw n rest)
    → (m : ℕ) × (length after ≤ m) × (all ≡ option_map (λ back. (out ++ front) ++ back) (unescaped is_raw m after))
unit_on is_raw n out [] front after all fits less at e = absurd (cc at)
unit_on is_raw zero out (c ∷ cs) front after all fits less at e = absurd (omega (arith, fits))
unit_on is_raw (suc n) out (c ∷ cs) front after all fits less at e = (
  n,
  omega (arith, fits, less),
  e
      ∙ ap (λ u. option_map (λ back. out ++ back) (u >>= λ (f, a). unescaped is_raw n a >>= λ back. Some (f ++ back))) at
      ∙ put_on out front (unescaped is_raw n after),
)

pub at_end : (is_raw : Bool) (n : ℕ) (out rest : List ℕ) (all : Option (List ℕ)) → rest ≡ [] → all ≡ option_map (λ back. out ++ back) (unescaped is_raw n rest) → all ≡ Some (out ++ [])
at_end is_raw n out rest all e h = h ∙ ap (λ r. option_map (λ back. out ++ back) (unescaped is_raw n r)) e

pub same_front : (is_raw : Bool) (n : ℕ) (rest out all : List ℕ) → out ≡ all → option_map (λ back. out ++ back) (unescaped is_raw n rest) ≡ option_map (λ back. all ++ back) (unescaped is_raw n rest)
same_front is_raw n rest out all e = ap (λ f. option_map (λ back. f ++ back) (unescaped is_raw n rest)) e
