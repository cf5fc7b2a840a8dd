-- Ranges up to an end.
use Rattle.std.proofs.Common.{arith, ◌≡◌, ◌<◌, ◌≤◌, ◌⊎◌, ℕ, ◌||◌, ◌&&◌, Some, None, List, Option, length, option_map, min, Bool, true, false, nat_le, nat_lt, refl, ap}
use Rattle.std.proofs.lemmas.Bool.{ltb_from_iff, ltb-true, lt-ltb, leb-true}
use Rattle.std.proofs.lemmas.Option.{slice_get_within}
use Rattle.std.specs.List.{slice_get}
use Rattle.tt_data.specs.declared.span.TextRange.{TextRange}
use Rattle.crate_items.specs.Opened.{is_in}

-- an offset before an end is before another one, if both come behind it
same_end : (s e n i j : ℕ) → j < n → min e n ≤ i → (i ≤ s) ⊎ (i ≤ min e n)
    → (nat_le s j && nat_lt j i) ≡ (nat_le s j && nat_lt j e)
same_end s e n i j within reaches at = go (nat_le s j) refl where
  to : nat_le s j ≡ true → nat_lt j i ≡ true → j < e
  to low high = omega (arith, leb-true s j low, ltb-true j i high, at)

  from : j < e → nat_lt j i ≡ true
  from h = lt-ltb j i (omega (arith, h, within, reaches))

  go : (b : Bool) → nat_le s j ≡ b → (b && nat_lt j i) ≡ (b && nat_lt j e)
  go false low = refl
  go true low = ltb_from_iff (to low, from)

-- what is marked up to a place behind the range's end, or behind the list, is marked as a whole
pub marked_whole : (xs : List Bool) (r : TextRange) (i j : ℕ) → min r.«end» (length xs) ≤ i
    → (i ≤ r.start) ⊎ (i ≤ min r.«end» (length xs))
    → option_map (λ m. m || is_in j (record { start = r.start; «end» = i })) (slice_get xs j)
    ≡ option_map (λ m. m || is_in j r) (slice_get xs j)
marked_whole xs r i j reaches at = go (slice_get xs j) refl where
  go : (o : Option Bool) → slice_get xs j ≡ o
      → option_map (λ m. m || (nat_le r.start j && nat_lt j i)) o
      ≡ option_map (λ m. m || (nat_le r.start j && nat_lt j r.«end»)) o
  go None e = refl
  go (Some m) e = ap (λ b. Some (m || b))
      (same_end r.start r.«end» (length xs) i j (slice_get_within xs j m e) reaches at)
