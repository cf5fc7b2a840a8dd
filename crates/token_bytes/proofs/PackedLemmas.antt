-- A table with a text more.
use Rattle.std.proofs.Common.{◌≡◌, refl, ℕ, ◌+◌, ◌≤◌, List, [], ◌∷◌, length, arith, nat_eq, Option, Some, None, Bool, true, false}
use Rattle.std.specs.Cmp.Lexicographic.{pointwise}
use Rattle.token_bytes.specs.Packing.{with_text, with_token}

length-with_text : (text : List ℕ) (table : List (List ℕ)) → length (with_text text table) ≤ length table + 1
length-with_text text [] = omega arith
length-with_text text (s ∷ more) = by (pointwise nat_eq text s) refl (length-with_text text more) where
  by : (b : Bool) → pointwise nat_eq text s ≡ b → length (with_text text more) ≤ length more + 1 → length (with_text text (s ∷ more)) ≤ length (s ∷ more) + 1
  by true e behind = rw e (omega arith)
  by false e behind = rw e (omega arith)

pub length-with_token : (found : Option (List ℕ)) (table : List (List ℕ)) → length (with_token found table) ≤ length table + 1
length-with_token None table = omega arith
length-with_token (Some text) table = length-with_text text table
