-- Lines, one byte on. (For the loops over a text.)
use Rattle.std.proofs.Common.{◌∙◌, ◌++◌, take, sym, ◌≡◌, ℕ, zero, suc, ◌+◌, ◌-◌, ◌*◌, ◌<◌, ◌≤◌, Bool, true, false, if◌then◌else◌, List, [], ◌∷◌, length, drop, slice_index, slice_range, sum_by, refl, ap, arith, length-drop}
use Rattle.std.proofs.lemmas.Grind.{common_steps}
use Rattle.std.proofs.lemmas.List.{drop_more, get_or-drop, take_more}
use Rattle.std.proofs.lemmas.List.Sums.{sum_by_push}
use Rattle.line_index.specs.Lines.{column_of, ends_line, line_of, line_start, units}

-- a later line of a rest begins behind its first byte, and is one less if a line ends with that
pub line_start-drop : (xs : List ℕ) (i line : ℕ) → 0 < line → i < length xs → line_start (drop i xs) line
    ≡ (if ends_line (slice_index xs i) (drop (i + 1) xs)
    then 1 + line_start (drop (i + 1) xs) (line - 1) else 1 + line_start (drop (i + 1) xs) line)
line_start-drop xs i zero later within = omega arith
line_start-drop xs i (suc line) later within =
    let one_less : suc line - 1 ≡ line = omega arith in
    rw (one_less, drop_more xs i 0 within) refl

-- in a text of no bytes every line begins at its end
line_start-empty : (xs : List ℕ) (line : ℕ) → length xs ≡ 0 → line_start xs line ≡ 0
line_start-empty xs zero none = refl
line_start-empty [] (suc line) none = refl
line_start-empty (x ∷ xs) (suc line) none = omega (arith, none)

-- behind the text there is nothing
pub line_start-past : (xs : List ℕ) (i line : ℕ) → length xs ≤ i → line_start (drop i xs) line ≡ 0
line_start-past xs i line past =
    line_start-empty (drop i xs) line (grind (arith, common_steps, length-drop i xs))

-- a line after one that ends with the first byte begins no farther, and neither does the same line
start_of_more : (x : ℕ) (xs : List ℕ) (line at : ℕ) → line_start xs line ≤ at
    → (e : Bool) → ends_line x xs ≡ e
    → line_start (x ∷ xs) (if e then 1 + line else line) ≤ suc at
start_of_more x xs line at rest true ends =
    let next : 1 + line ≡ suc line = omega arith in
    rw (next, ends) omega (arith, rest)
start_of_more x xs zero at rest false ends = omega arith
start_of_more x xs (suc line) at rest false ends = rw ends omega (arith, rest)

-- the line of a byte does not begin behind it
pub line_start-line_of : (xs : List ℕ) (at : ℕ) → line_start xs (line_of xs at) ≤ at
line_start-line_of xs zero = omega arith
line_start-line_of [] (suc at) = omega arith
line_start-line_of (x ∷ xs) (suc at) =
    start_of_more x xs (line_of xs at) at (line_start-line_of xs at) (ends_line x xs) refl

-- behind one more byte, with which a line ends or not, a step is the same
step_behind : (first next : Bool) (k l : ℕ) → l ≡ (if next then 1 + k else k)
    → (if first then 1 + l else l)
    ≡ (if next then 1 + (if first then 1 + k else k) else (if first then 1 + k else k))
step_behind true true k l e = ap (λ n. 1 + n) e
step_behind true false k l e = ap (λ n. 1 + n) e
step_behind false true k l e = e
step_behind false false k l e = e

line_of-suc : (xs : List ℕ) (i : ℕ) → i < length xs → line_of xs (suc i)
    ≡ (if ends_line (slice_index xs i) (drop (suc i) xs) then 1 + line_of xs i else line_of xs i)
line_of-suc [] i within = grind (arith, common_steps)
line_of-suc (x ∷ xs) zero within = refl
line_of-suc (x ∷ xs) (suc i) within =
    step_behind (ends_line x xs) (ends_line (slice_index xs i) (drop (suc i) xs))
    (line_of xs i) (line_of xs (suc i)) (line_of-suc xs i (grind (arith, common_steps)))

-- one byte on, a line more comes before where a line ends with the byte
pub line_of-next : (xs : List ℕ) (i : ℕ) → i < length xs → line_of xs (i + 1)
    ≡ (if ends_line (slice_index xs i) (drop (i + 1) xs) then 1 + line_of xs i else line_of xs i)
line_of-next xs i within =
    let on : i + 1 ≡ suc i = omega arith in
    rw on (line_of-suc xs i within)

-- behind one more byte, the next line begins one byte on
start_behind : (x : ℕ) (xs : List ℕ) (k n : ℕ) → line_start xs (1 + k) ≡ n
    → (b : Bool) → ends_line x xs ≡ b
    → line_start (x ∷ xs) (1 + (if b then 1 + k else k)) ≡ suc n
start_behind x xs k n e true ends =
    let here : line_start (x ∷ xs) (suc (1 + k)) ≡ 1 + line_start xs (1 + k) = rw ends refl in
    let whole : 1 + (1 + k) ≡ suc (1 + k) = omega arith in
    rw whole (here ∙ omega (arith, e))
start_behind x xs k n e false ends =
    let here : line_start (x ∷ xs) (suc k) ≡ 1 + line_start xs (suc k) = rw ends refl in
    let whole : 1 + k ≡ suc k = omega arith in
    let same : line_start xs (suc k) ≡ n = rw (sym whole) e in
    rw whole (here ∙ omega (arith, same))

start_of_second : (x : ℕ) (xs : List ℕ) → ends_line x xs ≡ true → line_start (x ∷ xs) 1 ≡ 1
start_of_second x xs e = rw e refl

start_at_suc : (xs : List ℕ) (i : ℕ) → i < length xs
    → ends_line (slice_index xs i) (drop (suc i) xs) ≡ true
    → line_start xs (1 + line_of xs i) ≡ suc i
start_at_suc [] i within ends = grind (arith, common_steps)
start_at_suc (x ∷ xs) zero within ends = start_of_second x xs ends
start_at_suc (x ∷ xs) (suc i) within ends =
    start_behind x xs (line_of xs i) (suc i)
    (start_at_suc xs i (grind (arith, common_steps)) ends) (ends_line x xs) refl

-- the next line begins behind the byte with which a line ends
pub next_start : (xs : List ℕ) (i : ℕ) → i < length xs
    → ends_line (slice_index xs i) (drop (i + 1) xs) ≡ true
    → line_start xs (1 + line_of xs i) ≡ i + 1
next_start xs i within ends =
    let on : i + 1 ≡ suc i = omega arith in
    rw on (start_at_suc xs i within (ap (λ n. ends_line (slice_index xs i) (drop n xs)) (sym on) ∙ ends))

-- one byte on in a line, its units more come before
pub same_line : (xs : List ℕ) (start i : ℕ) → start ≤ i → i < length xs
    → sum_by units (slice_range xs start (i + 1))
    ≡ sum_by units (slice_range xs start i) + units (slice_index xs i)
same_line xs start i before within =
    let on : i + 1 - start ≡ i - start + 1 = omega (arith, before) in
    let at : start + (i - start) ≡ i = omega (arith, before) in
    let inside : i - start < length (drop start xs) = grind (arith, length-drop start xs, before, within) in
    let more : take (i - start + 1) (drop start xs)
    ≡ take (i - start) (drop start xs) ++ slice_index xs i ∷ [] =
    take_more (drop start xs) (i - start) 0 inside
    ∙ ap (λ b. take (i - start) (drop start xs) ++ b ∷ [])
    (get_or-drop start xs (i - start) 0 ∙ ap (slice_index xs) at) in
    ap (λ n. sum_by units (take n (drop start xs))) on
    ∙ ap (sum_by units) more
    ∙ sum_by_push units (take (i - start) (drop start xs)) (slice_index xs i)

-- the column one byte on, by whether a line ends with the byte
column_by : (xs : List ℕ) (i : ℕ) → i < length xs → (b : Bool)
    → ends_line (slice_index xs i) (drop (i + 1) xs) ≡ b
    → line_of xs (i + 1) ≡ (if b then 1 + line_of xs i else line_of xs i)
    → column_of xs (i + 1) ≡ (if b then 0 else column_of xs i + units (slice_index xs i))
column_by xs i within true e more =
    ap (λ l. sum_by units (slice_range xs (line_start xs l) (i + 1))) more
    ∙ ap (λ s. sum_by units (slice_range xs s (i + 1))) (next_start xs i within e)
    ∙ ap (λ n. sum_by units (take n (drop (i + 1) xs))) (nothing_left (i + 1))
  where
    nothing_left : (n : ℕ) → n - n ≡ 0
    nothing_left n = omega arith
column_by xs i within false e more =
    ap (λ l. sum_by units (slice_range xs (line_start xs l) (i + 1))) more
    ∙ same_line xs (line_start xs (line_of xs i)) i (line_start-line_of xs i) within

-- one byte on, the column begins anew where a line ends with the byte
pub column_of-next : (xs : List ℕ) (i : ℕ) → i < length xs → column_of xs (i + 1)
    ≡ (if ends_line (slice_index xs i) (drop (i + 1) xs) then 0
    else column_of xs i + units (slice_index xs i))
column_of-next xs i within =
    column_by xs i within (ends_line (slice_index xs i) (drop (i + 1) xs)) refl
    (line_of-next xs i within)

few_behind : (b : Bool) (k i : ℕ) → k ≤ i → (if b then 1 + k else k) ≤ suc i
few_behind true k i few = omega (arith, few)
few_behind false k i few = omega (arith, few)

-- no more lines come before a byte than bytes
pub line_of-few : (xs : List ℕ) (i : ℕ) → line_of xs i ≤ i
line_of-few xs zero = omega arith
line_of-few [] (suc i) = omega arith
line_of-few (x ∷ xs) (suc i) = few_behind (ends_line x xs) (line_of xs i) i (line_of-few xs i)

units-few : (b : ℕ) → units b ≤ 2
units-few b = grind arith

-- and no more units than two for each
pub column_of-few : (xs : List ℕ) (i : ℕ) → i ≤ length xs → column_of xs i ≤ 2 * i
column_of-few xs zero within = grind (arith, common_steps)
column_of-few xs (suc i) within =
    let inside : i < length xs = omega (arith, within) in
    let next : suc i ≡ i + 1 = omega arith in
    let before : column_of xs i ≤ 2 * i = column_of-few xs i (omega (arith, inside)) in
    let few : column_of xs (i + 1) ≤ 2 * (i + 1) =
    go before (ends_line (slice_index xs i) (drop (i + 1) xs)) (column_of-next xs i inside) in
    rw next few
  where
    go : column_of xs i ≤ 2 * i → (b : Bool)
        → column_of xs (i + 1) ≡ (if b then 0 else column_of xs i + units (slice_index xs i))
        → column_of xs (i + 1) ≤ 2 * (i + 1)
    go before true e = omega (arith, e)
    go before false e = omega (arith, e, before, units-few (slice_index xs i))
