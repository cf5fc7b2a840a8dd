-- Visible tokens that cannot be printed, by their numbers, and the ranges of their faults.
use Rattle.std.proofs.Common.{◌≡◌, ℕ, ◌+◌, ◌<◌, ◌≤◌, drop, length, subst, List, [], ◌∷◌, ◌++◌, refl, sym, ap, ◌∙◌, Bool, true, false, arith, if◌then◌else◌}
use Rattle.std.specs.Prelude.{◌||◌, Option, Some, None, map, nat_eq}
use Rattle.std.specs.List.{list_any}
use Rattle.std.proofs.lemmas.Bool.Decides.{nat_tests}
use Rattle.std.proofs.lemmas.List.{at_drop_all}
use Rattle.tt_data.specs.Spans.{no_span}
use Rattle.tt_data.specs.Walk.{Step, at_leaf, opens, closes, step_with}
use Rattle.tt_data.specs.declared.leaf.Leaf.TheVariants as as_leaf
use Rattle.tt_data.specs.declared.span.Span.{Span}
use Rattle.bridge.specs.Printing as bare_printing
use Rattle.bridge.specs.Printing.{left_out_from}
use Rattle.bridge.specs.Spelling.{spelling}
use Rattle.expander_model.specs.declared.fault.FaultKind.TheVariants.{Unspellable}
use Rattle.expander_session.specs.declared.emitter.Told.{Told}
use Rattle.expander_model.specs.Expansion.{PlacedStep}
use Rattle.expander_model.specs.Faults.{place, fault_at, unspellable}
use Rattle.expander_session.specs.Emitting.{faults_at, told_from}
use Rattle.expander_model.specs.Printing.{left_out, spelling_before, steps_of, unspelled}

-- ---- numbers that are not among those that are left out

nat_same : (n : ℕ) → nat_eq n n ≡ true
nat_same n = grind (arith, nat_tests)

-- a number that stands before all of them
pub not_behind : (k n : ℕ) (ws : List Step) → k < n → list_any (nat_eq k) (left_out_from n ws) ≡ false
not_behind k n [] before = refl
not_behind k n (w ∷ ws) before = go (spelling w ws) (not_behind k (n + 1) ws (omega (arith, before)))
  where
    other : nat_eq k n ≡ false
    other = grind (arith, nat_tests)

    go : (o : Option (List ℕ)) → list_any (nat_eq k) (left_out_from (n + 1) ws) ≡ false → list_any (nat_eq k) (bare_printing.unspelled n o ++ left_out_from (n + 1) ws) ≡ false
    go None e = ap (λ b. b || list_any (nat_eq k) (left_out_from (n + 1) ws)) other ∙ e
    go (Some text) e = e

-- a number of a token behind these, which is not among those of the tokens from there on
pub not_before : (bs ws : List Step) (n k : ℕ) → n + length bs ≤ k → list_any (nat_eq k) (left_out_from (n + length bs) ws) ≡ false
    → list_any (nat_eq k) (left_out_from n (bs ++ ws)) ≡ false
not_before [] ws n k behind none =
    let here : n + 0 ≡ n = omega arith in
    subst (λ m. list_any (nat_eq k) (left_out_from m ws) ≡ false) here none
not_before (b ∷ bs) ws n k behind none =
    let there : n + length (b ∷ bs) ≡ n + 1 + length bs = omega arith in
    go (spelling b (bs ++ ws)) (not_before bs ws (n + 1) k (omega (arith, behind)) (subst (λ m. list_any (nat_eq k) (left_out_from m ws) ≡ false) there none))
  where
    other : nat_eq k n ≡ false
    other = grind (arith, nat_tests)

    go : (o : Option (List ℕ)) → list_any (nat_eq k) (left_out_from (n + 1) (bs ++ ws)) ≡ false
        → list_any (nat_eq k) (bare_printing.unspelled n o ++ left_out_from (n + 1) (bs ++ ws)) ≡ false
    go None e = ap (λ b. b || list_any (nat_eq k) (left_out_from (n + 1) (bs ++ ws))) other ∙ e
    go (Some text) e = e

-- ---- places that are told

-- of some tokens, and of those behind them
pub told_from-append : (n : ℕ) (xs ys : List PlacedStep) → told_from n (xs ++ ys) ≡ told_from n xs ++ told_from (n + length xs) ys
told_from-append n [] ys = let here : n ≡ n + 0 = omega arith in ap (λ k. told_from k ys) here
told_from-append n (x ∷ xs) ys =
    let there : n + 1 + length xs ≡ n + length (x ∷ xs) = omega arith in
    ap (λ l. record { number = n; range = (place x).range } ∷ l) (told_from-append (n + 1) xs ys ∙ ap (λ k. told_from (n + 1) xs ++ told_from k ys) there)

no_faults : (told : List Told) → faults_at told [] ≡ []
no_faults [] = refl
no_faults (t ∷ more) = refl

-- no number is left
pub none_left : (told : List Told) (numbers : List ℕ) (n : ℕ) → n ≡ length numbers → faults_at told (drop n numbers) ≡ []
none_left told numbers n all = at_drop_all (faults_at told) numbers n (omega (arith, all)) ∙ no_faults told

-- the place of a token that isn't left out tells no fault
skip_one : (t : Told) (more : List Told) (numbers : List ℕ) → list_any (nat_eq t.number) numbers ≡ false → faults_at (t ∷ more) numbers ≡ faults_at more numbers
skip_one t more [] none = sym (no_faults more)
skip_one t more (n ∷ numbers) none = go (nat_eq t.number n) none
  where
    go : (b : Bool) → (b || list_any (nat_eq t.number) numbers) ≡ false
        → (if b then record { kind = Unspellable; range = t.range } ∷ faults_at more numbers else faults_at more (n ∷ numbers)) ≡ faults_at more (n ∷ numbers)
    go true h = absurd (cc)
    go false h = refl

-- so don't places of such tokens
skip_all : (n : ℕ) (xs : List PlacedStep) (more : List Told) (numbers : List ℕ) → ((k : ℕ) → n ≤ k → k < n + length xs → list_any (nat_eq k) numbers ≡ false)
    → faults_at (told_from n xs ++ more) numbers ≡ faults_at more numbers
skip_all n [] more numbers none = refl
skip_all n (x ∷ xs) more numbers none =
    skip_one (record { number = n; range = (place x).range }) (told_from (n + 1) xs ++ more) numbers (none n (omega arith) (omega arith))
    ∙ skip_all (n + 1) xs more numbers (λ k low high. none k (omega (arith, low)) (omega (arith, high)))

-- and behind others
pub skip_behind : (before : List Told) (n : ℕ) (xs : List PlacedStep) (more : List Told) (numbers : List ℕ)
    → ((k : ℕ) → n ≤ k → k < n + length xs → list_any (nat_eq k) numbers ≡ false)
    → faults_at (before ++ (told_from n xs ++ more)) numbers ≡ faults_at (before ++ more) numbers
skip_behind [] n xs more numbers none = skip_all n xs more numbers none
skip_behind (t ∷ before) n xs more [] none = refl
skip_behind (t ∷ before) n xs more (m ∷ numbers) none =
    go (nat_eq t.number m) (skip_behind before n xs more numbers (λ k low high. later (nat_eq k m) (none k low high))) (skip_behind before n xs more (m ∷ numbers) none)
  where
    later : {b : Bool} → (a : Bool) → (a || b) ≡ false → b ≡ false
    later true h = absurd (cc)
    later false h = h

    go : (b : Bool) → faults_at (before ++ (told_from n xs ++ more)) numbers ≡ faults_at (before ++ more) numbers
        → faults_at (before ++ (told_from n xs ++ more)) (m ∷ numbers) ≡ faults_at (before ++ more) (m ∷ numbers)
        → (if b then record { kind = Unspellable; range = t.range } ∷ faults_at (before ++ (told_from n xs ++ more)) numbers else faults_at (before ++ (told_from n xs ++ more)) (m ∷ numbers))
        ≡ (if b then record { kind = Unspellable; range = t.range } ∷ faults_at (before ++ more) numbers else faults_at (before ++ more) (m ∷ numbers))
    go true same rest = ap (λ l. record { kind = Unspellable; range = t.range } ∷ l) same
    go false same rest = rest

-- places of all tokens tell the faults of those that are left out
pub told_one_by_one : (n : ℕ) (xs : List PlacedStep) → faults_at (told_from n xs) (left_out_from n (steps_of xs)) ≡ unspellable (left_out spelling_before xs)
told_one_by_one n [] = refl
told_one_by_one n (s ∷ more) = go (spelling_before s.step more) (told_one_by_one (n + 1) more)
  where
    here : Told
    here = record { number = n; range = (place s).range }

    later : List Told
    later = told_from (n + 1) more

    numbers : List ℕ
    numbers = left_out_from (n + 1) (steps_of more)

    go : (o : Option (List ℕ)) → faults_at later numbers ≡ unspellable (left_out spelling_before more)
        → faults_at (here ∷ later) (bare_printing.unspelled n o ++ numbers) ≡ unspellable (unspelled spelling_before s o ++ left_out spelling_before more)
    go None e =
        ap (λ (b : Bool). if b then record { kind = Unspellable; range = (place s).range } ∷ faults_at later numbers else faults_at later (n ∷ numbers)) (nat_same n)
        ∙ ap (λ l. fault_at Unspellable (place s) ∷ l) e
    go (Some text) e = skip_one here later numbers (not_behind n (n + 1) (steps_of more) (omega arith)) ∙ e

-- ---- tokens elsewhere, where a spelling hangs on no place

module _ (hangs : (h : Span → Span) (s : Step) (more : List Step) → spelling (step_with h s) (map (step_with h) more) ≡ spelling s more) where
  nowhere : Span → Span
  nowhere span = no_span

  step_nowhere : (f : Span → Span) (s : Step) → step_with nowhere (step_with f s) ≡ step_with nowhere s
  unfolding nowhere
  step_nowhere f (at_leaf (as_leaf.Ident i)) = refl
  step_nowhere f (at_leaf (as_leaf.Punct p)) = refl
  step_nowhere f (at_leaf (as_leaf.Literal l)) = refl
  step_nowhere f (opens kind span) = refl
  step_nowhere f (closes kind span) = refl

  steps_nowhere : (f : Span → Span) (xs ys : List Step) → map (step_with nowhere) (map (step_with f) xs ++ ys) ≡ map (step_with nowhere) (xs ++ ys)
  steps_nowhere f [] ys = refl
  steps_nowhere f (x ∷ xs) ys =
      ap (λ s. s ∷ map (step_with nowhere) (map (step_with f) xs ++ ys)) (step_nowhere f x) ∙ ap (λ l. step_with nowhere x ∷ l) (steps_nowhere f xs ys)

  spelled_elsewhere : (f : Span → Span) (s : Step) (xs ys : List Step) → spelling (step_with f s) (map (step_with f) xs ++ ys) ≡ spelling s (xs ++ ys)
  spelled_elsewhere f s xs ys =
      sym (hangs nowhere (step_with f s) (map (step_with f) xs ++ ys))
      ∙ ap (λ t. spelling t (map (step_with nowhere) (map (step_with f) xs ++ ys))) (step_nowhere f s)
      ∙ ap (spelling (step_with nowhere s)) (steps_nowhere f xs ys)
      ∙ hangs nowhere s (xs ++ ys)

  -- where none of some tokens is left out, none is of them elsewhere
  pub none_elsewhere : (f : Span → Span) (n m : ℕ) (xs ys : List Step) → left_out_from (n + length xs) ys ≡ left_out_from n (xs ++ ys)
      → left_out_from m (map (step_with f) xs ++ ys) ≡ left_out_from (m + length xs) ys
  none_elsewhere f n m [] ys told = let here : m ≡ m + 0 = omega arith in ap (λ k. left_out_from k ys) here
  none_elsewhere f n m (x ∷ xs) ys told = go (spelling x (xs ++ ys)) refl told (none_elsewhere f (n + 1) (m + 1) xs ys)
    where
      go : (o : Option (List ℕ)) → spelling x (xs ++ ys) ≡ o → left_out_from (n + length (x ∷ xs)) ys ≡ bare_printing.unspelled n o ++ left_out_from (n + 1) (xs ++ ys)
          → (left_out_from (n + 1 + length xs) ys ≡ left_out_from (n + 1) (xs ++ ys) → left_out_from (m + 1) (map (step_with f) xs ++ ys) ≡ left_out_from (m + 1 + length xs) ys)
          → left_out_from m (map (step_with f) (x ∷ xs) ++ ys) ≡ left_out_from (m + length (x ∷ xs)) ys
      go None is h later =
          let no : list_any (nat_eq n) (left_out_from (n + length (x ∷ xs)) ys) ≡ false = not_behind n (n + length (x ∷ xs)) ys (omega arith) in
          let yes : list_any (nat_eq n) (left_out_from (n + length (x ∷ xs)) ys) ≡ true =
          ap (list_any (nat_eq n)) h ∙ ap (λ b. b || list_any (nat_eq n) (left_out_from (n + 1) (xs ++ ys))) (nat_same n) in
          absurd (cc)
      go (Some text) is h later =
          let own : n + 1 + length xs ≡ n + length (x ∷ xs) = omega arith in
          let there : m + 1 + length xs ≡ m + length (x ∷ xs) = omega arith in
          ap (λ o. bare_printing.unspelled m o ++ left_out_from (m + 1) (map (step_with f) xs ++ ys)) (spelled_elsewhere f x xs ys ∙ is)
          ∙ later (ap (λ k. left_out_from k ys) own ∙ h) ∙ ap (λ k. left_out_from k ys) there
