-- From one line's end to the next. (For the loops over lines.)
use Rattle.std.proofs.Common.{◌≡◌, ◌∙◌, ℕ, zero, suc, ◌+◌, ◌-◌, ◌<◌, ◌≤◌, Bool, true, false, if◌then◌else◌, List, length, drop, nat_lt, slice_index, slice_range, sum_by, refl, sym, subst, ap, arith}
use Rattle.std.proofs.lemmas.List.{get_or-drop}
use Rattle.memchr.specs.Find.{Nowhere, Passes, is_byte2}
use Rattle.line_index.specs.LineEnds.{IsEnd, IsFirstEnd, NoneEnds}
use Rattle.line_index.specs.Lines.{column_of, ends_line, line_of, line_start, units}
use Rattle.line_index.proofs.StepLemmas.{column_of-next, line_of-next, line_start-drop, line_start-past, same_line}

-- ---- where no line ends

not_true : (b : Bool) → (b ≡ true → ⊥) → b ≡ false
not_true true = λ no. let none : ⊥ = no refl in absurd none
not_true false = λ no. refl

end_is_break : (b : ℕ) (rest : List ℕ) → ends_line b rest ≡ true → is_byte2 10 13 b ≡ true
end_is_break b rest ends = grind (arith, ends)

-- none ends in bytes that are neither a line feed nor a carriage return
pub none_passed : (text : List ℕ) (from passed : ℕ) → Nowhere (Passes (is_byte2 10 13) (drop from text)) 0 passed
    → NoneEnds text from (from + passed)
none_passed text from passed nowhere at order before ends =
    let there : from + (at - from) ≡ at = omega (arith, order) in
    let same : slice_index (drop from text) (at - from) ≡ slice_index text at = get_or-drop from text (at - from) 0 ∙ ap (slice_index text) there in
    nowhere (at - from) (omega arith) (omega (arith, order, before)) (ap (is_byte2 10 13) same ∙ end_is_break (slice_index text at) (drop (at + 1) text) ends)

pub none_both : (text : List ℕ) (first second last : ℕ) → NoneEnds text first second → NoneEnds text second last → NoneEnds text first last
none_both text first second last before behind at order within ends = go (nat_lt at second) refl
  where
    go : (e : Bool) → nat_lt at second ≡ e → ⊥
    go true e = before at order (grind (arith, e)) ends
    go false e = behind at (grind (arith, e)) within ends

pub none_here : (text : List ℕ) (at : ℕ) → ends_line (slice_index text at) (drop (at + 1) text) ≡ false → NoneEnds text at (at + 1)
none_here text at goes_on k order before ends =
    let same : k ≡ at = omega (arith, order, before) in
    let here : IsEnd text at = subst (IsEnd text) same ends in
    cc

pub none_nearer : (text : List ℕ) (from near far : ℕ) → near ≤ far → NoneEnds text from far → NoneEnds text from near
none_nearer text from near far order none at behind before = none at behind (omega (arith, order, before))

goes_on : (text : List ℕ) (i n : ℕ) → NoneEnds text i (i + suc n) → ends_line (slice_index text i) (drop (i + 1) text) ≡ false
goes_on text i n none = not_true (ends_line (slice_index text i) (drop (i + 1) text)) (none i (omega arith) (omega arith))

-- ---- where lines begin

if_true : {X : Type 0} (b : Bool) (x y : X) → b ≡ true → (if b then x else y) ≡ x
if_true true x y e = refl
if_true false x y e = cc

if_false : {X : Type 0} (b : Bool) (x y : X) → b ≡ false → (if b then x else y) ≡ y
if_false false x y e = refl
if_false true x y e = cc

line_start-pass : (text : List ℕ) (i n line : ℕ) → 0 < line → i + n ≤ length text → NoneEnds text i (i + n)
    → line_start (drop i text) line ≡ n + line_start (drop (i + n) text) line
line_start-pass text i zero line later within none =
    let same : i + 0 ≡ i = omega arith in
    rw same omega arith
line_start-pass text i (suc n) line later within none =
    let on : i + suc n ≡ i + 1 + n = omega arith in
    let rest : line_start (drop (i + 1) text) line ≡ n + line_start (drop (i + 1 + n) text) line =
    line_start-pass text (i + 1) n line later (omega (arith, within))
    (λ at order before. none at (omega (arith, order)) (omega (arith, before))) in
    let first : line_start (drop i text) line ≡ 1 + line_start (drop (i + 1) text) line =
    line_start-drop text i line later (omega (arith, within)) ∙ if_false _ _ _ (goes_on text i n none) in
    rw on (first ∙ omega (arith, rest))

-- the line behind the next end
pub next_line : (text : List ℕ) (from at left : ℕ) → 0 < left → IsFirstEnd text from at
    → from + line_start (drop from text) left ≡ at + 1 + line_start (drop (at + 1) text) (left - 1)
next_line text from at left later is =
    let there : from + (at - from) ≡ at = omega (arith, is.behind) in
    let none : NoneEnds text from (from + (at - from)) = subst (NoneEnds text from) (sym there) is.none in
    let pass : line_start (drop from text) left ≡ (at - from) + line_start (drop (from + (at - from)) text) left =
    line_start-pass text from (at - from) left later (omega (arith, is.within, is.behind)) none in
    let here : line_start (drop (from + (at - from)) text) left ≡ line_start (drop at text) left =
    ap (λ (n : ℕ). line_start (drop n text) left) there in
    let ends : line_start (drop at text) left ≡ 1 + line_start (drop (at + 1) text) (left - 1) =
    line_start-drop text at left later is.within ∙ if_true _ _ _ is.ends in
    omega (arith, pass, here, ends, is.behind)

-- there is none where no line ends
pub no_line : (text : List ℕ) (from left : ℕ) → 0 < left → from ≤ length text → NoneEnds text from (length text)
    → from + line_start (drop from text) left ≡ length text
no_line text from left later within none =
    let there : from + (length text - from) ≡ length text = omega (arith, within) in
    let pass : line_start (drop from text) left ≡ (length text - from) + line_start (drop (from + (length text - from)) text) left =
    line_start-pass text from (length text - from) left later (omega (arith, within)) (subst (NoneEnds text from) (sym there) none) in
    let past : line_start (drop (from + (length text - from)) text) left ≡ 0 =
    line_start-past text (from + (length text - from)) left (omega (arith, there)) in
    omega (arith, pass, past, within)

-- ---- positions

stays_in_line : (text : List ℕ) (i n : ℕ) → i + n ≤ length text → NoneEnds text i (i + n)
    → (line_of text (i + n) ≡ line_of text i) × (column_of text (i + n) ≡ column_of text i + sum_by units (slice_range text i (i + n)))
stays_in_line text i zero within none =
    let same : i + 0 ≡ i = omega arith in
    let nothing : i - i ≡ 0 = omega arith in
    rw (same, nothing) (refl, omega arith)
stays_in_line text i (suc n) within none =
    let on : i + suc n ≡ i + n + 1 = omega arith in
    let inside : i + n < length text = omega (arith, within) in
    let before = stays_in_line text i n (omega (arith, within)) (λ at order near. none at order (omega (arith, near))) in
    let goes : ends_line (slice_index text (i + n)) (drop (i + n + 1) text) ≡ false = not_true _ (none (i + n) (omega arith) (omega arith)) in
    let sum = same_line text i (i + n) (omega arith) inside in
    let line : line_of text (i + n + 1) ≡ line_of text (i + n) = line_of-next text (i + n) inside ∙ if_false _ _ _ goes in
    let column : column_of text (i + n + 1) ≡ column_of text (i + n) + units (slice_index text (i + n)) =
    column_of-next text (i + n) inside ∙ if_false _ _ _ goes in
    rw on (line ∙ before.0, omega (arith, column, before.1, sum))

module _ (text : List ℕ) (from at : ℕ) where
  -- a byte in the line of another
  pub in_line : from ≤ at → at ≤ length text → NoneEnds text from at
      → (line_of text at ≡ line_of text from) × (column_of text at ≡ column_of text from + sum_by units (slice_range text from at))
  in_line order within none =
      let there : from + (at - from) ≡ at = omega (arith, order) in
      subst (λ (n : ℕ). (line_of text n ≡ line_of text from) × (column_of text n ≡ column_of text from + sum_by units (slice_range text from n)))
      there (stays_in_line text from (at - from) (omega (arith, order, within)) (subst (NoneEnds text from) (sym there) none))

  -- the byte behind the next end
  pub behind_end : IsFirstEnd text from at → (line_of text (at + 1) ≡ 1 + line_of text from) × (column_of text (at + 1) ≡ 0)
  behind_end is = (
    line_of-next text at is.within ∙ if_true _ _ _ is.ends
        ∙ ap (λ (n : ℕ). 1 + n) (in_line is.behind (omega (arith, is.within)) is.none).0,
    column_of-next text at is.within ∙ if_true _ _ _ is.ends,
  )
