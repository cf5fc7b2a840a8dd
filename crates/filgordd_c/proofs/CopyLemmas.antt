-- Ranges that are copied one by one: the room begins with those of the first i, and ends as it did.
use Rattle.std.proofs.Common.{◌≡◌, ℕ, suc, ◌+◌, ◌-◌, ◌<◌, ◌≤◌, List, [], ◌∷◌, ◌++◌, length, take, drop, sym, ap, ◌∙◌, arith}
use Rattle.std.proofs.lemmas.Grind.{drop_more_same}
use Rattle.std.proofs.lemmas.List.{drop-drop, drop-set-lt, get_or-drop, length-drop, length-map, length-set, map-append, take-append-drop, take_all, take_more, take_more_set}
use Rattle.std.proofs.lemmas.Option.{get_or_from_slice_get, slice_get-get_or, slice_get_within}
use Rattle.std.specs.Prelude.{get_or, map, set, slice_get, Some}
use Rattle.tt_data.specs.declared.span.TextRange.{TextRange}
use Rattle.filgordd_c.specs.Answered.{byte_range}
use Rattle.filgordd_c.specs.declared.answers.ByteRange.{ByteRange}

-- the next range of those that are left
pub next_range : (ranges : List TextRange) (i : ℕ) (r : TextRange) (more : List TextRange) → drop i ranges ≡ r ∷ more → slice_get ranges i ≡ Some r
next_range ranges i r more is =
    let long : length ranges - i ≡ suc (length more) = sym (length-drop i ranges) ∙ ap length is in
    let within : i < length ranges = omega (arith, long) in
    let first : get_or ranges i r ≡ r = ap (λ n. get_or ranges n r) (let same : i ≡ i + 0 = omega arith in same) ∙ sym (get_or-drop i ranges 0 r) ∙ ap (λ xs. get_or xs 0 r) is in
    slice_get-get_or ranges i r within ∙ ap Some first

-- and those that are left after it
pub next_rest : (ranges : List TextRange) (i : ℕ) (r : TextRange) (more : List TextRange) → drop i ranges ≡ r ∷ more → drop (i + 1) ranges ≡ more
next_rest ranges i r more is = sym (drop-drop 1 i ranges) ∙ ap (drop 1) is

module _ {A : Type 0} (room : List A) (i : ℕ) (x : A) where
  -- one more of a list
  pub same_more : (xs : List A) → slice_get xs i ≡ Some x → i < length room → take i room ≡ take i xs
      → take (i + 1) (set room i x) ≡ take (i + 1) xs
  same_more xs at within so_far =
      take_more_set room i x within
      ∙ ap (λ (ys : List A). ys ++ x ∷ []) so_far
      ∙ sym (take_more xs i x (slice_get_within xs i x at) ∙ ap (λ (y : A). take i xs ++ y ∷ []) (get_or_from_slice_get xs i x x at))

  -- what is behind stays
  pub left_behind : (old : List A) → drop i room ≡ drop i old → drop (i + 1) (set room i x) ≡ drop (i + 1) old
  left_behind old so_far =
      let later : i < i + 1 = omega arith in
      drop-set-lt (i + 1) room i x later ∙ drop_more_same room old i so_far

  pub as_many : (n : ℕ) → n ≤ length room → n ≤ length (set room i x)
  as_many n enough = rw (length-set room i x) enough

-- at the end the room begins with the first of the list
pub all_same : {A : Type 0} (xs room old : List A) (i n : ℕ) → i ≡ n → take i room ≡ take i xs → drop i room ≡ drop i old
    → room ≡ take n xs ++ drop n old
all_same {A} xs room old i n is copied left =
    sym (take-append-drop i room)
    ∙ ap (λ (ys : List A). ys ++ drop i room) copied
    ∙ ap (λ (ys : List A). take i xs ++ ys) left
    ∙ ap (λ k. take k xs ++ drop k old) is

module _ (ranges : List TextRange) (room : List ByteRange) (i : ℕ) (r : TextRange) (x : ByteRange) (at : slice_get ranges i ≡ Some r) (is : x ≡ byte_range r) where
  pub copied_more : i < length room → take i room ≡ map byte_range (take i ranges)
      → take (i + 1) (set room i x) ≡ map byte_range (take (i + 1) ranges)
  copied_more within so_far =
      let next : take (i + 1) ranges ≡ take i ranges ++ r ∷ [] =
      take_more ranges i r (slice_get_within ranges i r at)
      ∙ ap (λ y. take i ranges ++ y ∷ []) (get_or_from_slice_get ranges i r r at) in
      take_more_set room i x within
      ∙ ap (λ rs. rs ++ x ∷ []) so_far
      ∙ ap (λ y. map byte_range (take i ranges) ++ y ∷ []) is
      ∙ sym (map-append byte_range (take i ranges) (r ∷ []))
      ∙ ap (map byte_range) (sym next)

  pub left_less : (old : List ByteRange) → drop i room ≡ drop i old → drop (i + 1) (set room i x) ≡ drop (i + 1) old
  left_less old so_far = left_behind room i x old so_far

  pub as_long : (n : ℕ) → n ≤ length room → n ≤ length (set room i x)
  as_long n enough = as_many room i x n enough

-- at the end of the ranges all of them are copied
pub copied_all : (ranges : List TextRange) (room old : List ByteRange) (i : ℕ) → drop i ranges ≡ [] → i ≤ length ranges
    → take i room ≡ map byte_range (take i ranges) → drop i room ≡ drop i old
    → room ≡ map byte_range ranges ++ drop (length (map byte_range ranges)) old
copied_all ranges room old i none far copied left =
    let short : length ranges - i ≡ 0 = sym (length-drop i ranges) ∙ ap length none in
    let all : i ≡ length ranges = omega (arith, short, far) in
    let whole : take i ranges ≡ ranges = take_all i ranges (omega (arith, short)) in
    sym (take-append-drop i room)
    ∙ ap (λ xs. xs ++ drop i room) (copied ∙ ap (map byte_range) whole)
    ∙ ap (λ xs. map byte_range ranges ++ xs) (left ∙ ap (λ n. drop n old) (all ∙ sym (length-map ranges byte_range)))
