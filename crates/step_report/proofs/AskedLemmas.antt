-- Steps that are told of one after another, where those that are asked for are.
use Rattle.std.proofs.Common.{◌≡◌, ℕ, ◌+◌, ◌<◌, ◌≤◌, ◌∙◌, Bool, true, false, List, [], ◌∷◌, ◌++◌, length, drop, get_or, map, flat_map, append_assoc, refl, ap, sym}
use Rattle.std.proofs.lemmas.List.{drop_all, drop_more}
use Rattle.std.specs.List.{list_any}
use Rattle.std.specs.Prelude.{◌||◌, ◌&&◌, Option, if◌then◌else◌}
use Rattle.tt_data.specs.Forest.{Forest}
use Rattle.tt_data.specs.declared.span.TextRange.{TextRange}
use Rattle.expander_trace.specs.Steps.{Step}
use Rattle.step_report.specs.Asked.{asked_steps, ends_asked, is_asked}
use Rattle.step_report.specs.Json.{State, index_behind, lines_if, state_if, step_lines}
use Rattle.step_report.specs.Bound.{Context}
use Rattle.step_report.proofs.ListLemmas.{all_told}

-- the lines of one step, if it is asked for, and those behind it
told_if : (F : Step Forest → List ℕ) (b : Bool) (s : Step Forest) (rest : List (Step Forest))
    → flat_map F ((if b then s ∷ [] else []) ++ rest) ≡ (if b then F s else []) ++ flat_map F rest
told_if F true s rest = refl
told_if F false s rest = refl

-- the same where steps are numbered
numbered_if : (t : Context) (n : State) (b : Bool) (s : Step Forest) (rest : List (Step Forest))
    → step_lines t n ((if b then s ∷ [] else []) ++ rest)
    ≡ lines_if b t n s ++ step_lines t (state_if b n s) rest
numbered_if t n true s rest = refl
numbered_if t n false s rest = refl

-- and their number
counted_if : (n : State) (b : Bool) (s : Step Forest) (rest : List (Step Forest))
    → index_behind n.next ((if b then s ∷ [] else []) ++ rest)
    ≡ index_behind (state_if b n s).next rest
counted_if n true s rest = refl
counted_if n false s rest = refl

-- one of them does
any_if : (h : Step Forest → Bool) (b : Bool) (s : Step Forest) (rest : List (Step Forest))
    → list_any h ((if b then s ∷ [] else []) ++ rest) ≡ ((b && h s) || list_any h rest)
any_if h true s rest = refl
any_if h false s rest = refl

or_apart : (a b c : Bool) → ((a || b) || c) ≡ (a || (b || c))
or_apart true b c = refl
or_apart false b c = refl

or_none : (a : Bool) → a ≡ (a || false)
or_none true = refl
or_none false = refl

module _ {S : Type 0} (told : S → Step Forest) (asked : Option TextRange)
    (xs : List S) (i : ℕ) (x : S) (on b : Bool)
    (inside : i < length xs) (here : x ≡ get_or xs i x) (is : b ≡ is_asked asked on (told x)) where
  -- what is left begins with this step, if it is asked for
  left_if : asked_steps asked on (map told (drop i xs))
      ≡ (if b then told x ∷ [] else []) ++ asked_steps asked b (map told (drop (i + 1) xs))
  left_if =
      let rest = map told (drop (i + 1) xs) in
      ap (λ (ys : List S). asked_steps asked on (map told ys))
      (drop_more xs i x inside ∙ ap (λ (y : S). y ∷ drop (i + 1) xs) (sym here))
      ∙ ap (λ (c : Bool). (if c then told x ∷ [] else []) ++ asked_steps asked c rest) (sym is)

  -- the last of all is the last of those that are left
  pub one_less : (last : Bool) → ends_asked asked on (map told (drop i xs)) ≡ last
      → ends_asked asked b (map told (drop (i + 1) xs)) ≡ last
  one_less last so_far =
      let rest = map told (drop (i + 1) xs) in
      ap (λ (c : Bool). ends_asked asked c rest) is
      ∙ ap (λ (ys : List S). ends_asked asked on (map told ys))
      (sym (drop_more xs i x inside ∙ ap (λ (y : S). y ∷ drop (i + 1) xs) (sym here)))
      ∙ so_far

  -- one more is told of
  pub one_more : (F : Step Forest → List ℕ) (out new total : List ℕ)
      → out ++ flat_map F (asked_steps asked on (map told (drop i xs))) ≡ total
      → new ≡ out ++ (if b then F (told x) else [])
      → new ++ flat_map F (asked_steps asked b (map told (drop (i + 1) xs))) ≡ total
  one_more F out new total so_far added =
      let rest = asked_steps asked b (map told (drop (i + 1) xs)) in
      ap (λ (o : List ℕ). o ++ flat_map F rest) added
      ∙ append_assoc out (if b then F (told x) else []) (flat_map F rest)
      ∙ ap (λ (l : List ℕ). out ++ l) (sym (told_if F b (told x) rest))
      ∙ ap (λ (ss : List (Step Forest)). out ++ flat_map F ss) (sym left_if)
      ∙ so_far

  -- one more is told of, and numbered
  pub one_more_numbered : (t : Context) (n m : State) (out new total : List ℕ)
      → out ++ step_lines t n (asked_steps asked on (map told (drop i xs))) ≡ total
      → new ≡ out ++ lines_if b t n (told x) → m ≡ state_if b n (told x)
      → new ++ step_lines t m (asked_steps asked b (map told (drop (i + 1) xs))) ≡ total
  one_more_numbered t n m out new total so_far added after =
      let rest = asked_steps asked b (map told (drop (i + 1) xs)) in
      ap (λ (k : State). new ++ step_lines t k rest) after
      ∙ ap (λ (o : List ℕ). o ++ step_lines t (state_if b n (told x)) rest) added
      ∙ append_assoc out (lines_if b t n (told x)) (step_lines t (state_if b n (told x)) rest)
      ∙ ap (λ (l : List ℕ). out ++ l) (sym (numbered_if t n b (told x) rest))
      ∙ ap (λ (ss : List (Step Forest)). out ++ step_lines t n ss) (sym left_if)
      ∙ so_far

  -- one more is counted
  pub one_more_counted : (n m : State) (total : ℕ)
      → index_behind n.next (asked_steps asked on (map told (drop i xs))) ≡ total
      → m ≡ state_if b n (told x)
      → index_behind m.next (asked_steps asked b (map told (drop (i + 1) xs))) ≡ total
  one_more_counted n m total so_far after =
      let rest = asked_steps asked b (map told (drop (i + 1) xs)) in
      ap (λ (k : State). index_behind k.next rest) after
      ∙ sym (counted_if n b (told x) rest)
      ∙ ap (λ (ss : List (Step Forest)). index_behind n.next ss) (sym left_if)
      ∙ so_far

  -- one more may stay for a fault
  pub one_more_any : (h : Step Forest → Bool) (found new total : Bool)
      → (found || list_any h (asked_steps asked on (map told (drop i xs)))) ≡ total
      → new ≡ (found || (b && h (told x)))
      → (new || list_any h (asked_steps asked b (map told (drop (i + 1) xs)))) ≡ total
  one_more_any h found new total so_far is_new =
      let rest = asked_steps asked b (map told (drop (i + 1) xs)) in
      ap (λ (c : Bool). c || list_any h rest) is_new
      ∙ or_apart found (b && h (told x)) (list_any h rest)
      ∙ ap (λ (c : Bool). found || c) (sym (any_if h b (told x) rest))
      ∙ ap (λ (ss : List (Step Forest)). found || list_any h ss) (sym left_if)
      ∙ so_far

-- all are told of, and why there are no more
pub all_steps : {S : Type 0} → (told : S → Step Forest) (asked : Option TextRange) (xs : List S)
    (i : ℕ) (on : Bool) (G : List (Step Forest) → List ℕ) (K : Bool → List ℕ)
    (out initial total : List ℕ) (ends : Bool) → length xs ≤ i → G [] ≡ []
    → out ++ G (asked_steps asked on (map told (drop i xs))) ≡ initial ++ total
    → ends_asked asked on (map told (drop i xs)) ≡ ends
    → out ++ K on ≡ initial ++ (total ++ K ends)
all_steps {S} told asked xs i on G K out initial total ends past none so_far last =
    let left = drop_all i xs past in
    ap (λ (o : List ℕ). o ++ K on)
    (all_told (λ (ys : List S). G (asked_steps asked on (map told ys))) xs i out (initial ++ total)
    past none so_far)
    ∙ append_assoc initial total (K on)
    ∙ ap (λ (b : Bool). initial ++ (total ++ K b))
    (ap (λ (ys : List S). ends_asked asked on (map told ys)) (sym left) ∙ last)

-- all are counted
pub all_counted : {S : Type 0} → (told : S → Step Forest) (asked : Option TextRange) (xs : List S)
    (i : ℕ) (on : Bool) (next total : ℕ) → length xs ≤ i
    → index_behind next (asked_steps asked on (map told (drop i xs))) ≡ total → next ≡ total
all_counted {S} told asked xs i on next total past so_far =
    ap (λ (ys : List S). index_behind next (asked_steps asked on (map told ys)))
    (sym (drop_all i xs past)) ∙ so_far

-- all are passed
pub all_any : {S : Type 0} → (told : S → Step Forest) (asked : Option TextRange) (xs : List S)
    (i : ℕ) (on : Bool) (h : Step Forest → Bool) (found total : Bool) → length xs ≤ i
    → (found || list_any h (asked_steps asked on (map told (drop i xs)))) ≡ total → found ≡ total
all_any {S} told asked xs i on h found total past so_far =
    or_none found
    ∙ ap (λ (ys : List S). found || list_any h (asked_steps asked on (map told ys)))
    (sym (drop_all i xs past)) ∙ so_far
