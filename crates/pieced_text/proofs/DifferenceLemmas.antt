-- What two texts have in common at their ends, step by step.
use Rattle.std.proofs.Common.{◌≡◌, ◌∙◌, ◌+◌, ◌-◌, ◌≤◌, ◌++◌, ℕ, List, ap, arith, drop, length, sym, take}
use Rattle.std.proofs.lemmas.List.{drop-drop, drop-take, take-append-drop, take-take}

taken_more : (n m : ℕ) (xs : List ℕ) → take (n + m) xs ≡ take n xs ++ take m (drop n xs)
taken_more n m xs =
    sym (take-append-drop n (take (n + m) xs))
    ∙ ap (λ (l : List ℕ). l ++ drop n (take (n + m) xs)) (take-take n (n + m) xs (omega arith))
    ∙ ap (λ (l : List ℕ). take n xs ++ l) (drop-take n m xs)

-- more bytes are the same in front
pub front_more : (old new : List ℕ) (n m : ℕ) → take n old ≡ take n new → take m (drop n old) ≡ take m (drop n new)
    → take (n + m) old ≡ take (n + m) new
front_more old new n m same next =
    taken_more n m old ∙ ap (λ (l : List ℕ). l ++ take m (drop n old)) same
    ∙ ap (λ (l : List ℕ). take n new ++ l) next ∙ sym (taken_more n m new)

-- so are fewer
pub front_less : (old new : List ℕ) (n m : ℕ) → m ≤ n → take n old ≡ take n new → take m old ≡ take m new
front_less old new n m few same =
    sym (take-take m n old few) ∙ ap (λ (l : List ℕ). take m l) same ∙ take-take m n new few

dropped_more : (n m : ℕ) (xs : List ℕ) → n + m ≤ length xs
    → drop (length xs - (n + m)) xs ≡ take m (drop (length xs - (n + m)) xs) ++ drop (length xs - n) xs
dropped_more n m xs few =
    let there : length xs - (n + m) + m ≡ length xs - n = omega (arith, few) in
    sym (take-append-drop m (drop (length xs - (n + m)) xs))
    ∙ ap (λ (l : List ℕ). take m (drop (length xs - (n + m)) xs) ++ l)
    (drop-drop m (length xs - (n + m)) xs ∙ ap (λ (k : ℕ). drop k xs) there)

-- more bytes are the same at the end
pub back_more : (old new : List ℕ) (n m : ℕ) → n + m ≤ length old → n + m ≤ length new
    → drop (length old - n) old ≡ drop (length new - n) new
    → take m (drop (length old - (n + m)) old) ≡ take m (drop (length new - (n + m)) new)
    → drop (length old - (n + m)) old ≡ drop (length new - (n + m)) new
back_more old new n m few_old few_new same next =
    dropped_more n m old few_old ∙ ap (λ (l : List ℕ). l ++ drop (length old - n) old) next
    ∙ ap (λ (l : List ℕ). take m (drop (length new - (n + m)) new) ++ l) same ∙ sym (dropped_more n m new few_new)

-- so are fewer
pub back_less : (old new : List ℕ) (n m : ℕ) → m ≤ n → n ≤ length old → n ≤ length new
    → drop (length old - n) old ≡ drop (length new - n) new
    → drop (length old - m) old ≡ drop (length new - m) new
back_less old new n m few few_old few_new same =
    let there : length old - n + (n - m) ≡ length old - m = omega (arith, few, few_old) in
    let here : length new - n + (n - m) ≡ length new - m = omega (arith, few, few_new) in
    ap (λ (k : ℕ). drop k old) (sym there) ∙ sym (drop-drop (n - m) (length old - n) old)
    ∙ ap (λ (l : List ℕ). drop (n - m) l) same
    ∙ drop-drop (n - m) (length new - n) new ∙ ap (λ (k : ℕ). drop k new) here
