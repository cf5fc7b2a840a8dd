-- The bindings that the code keeps, one step after another.
use Rattle.std.proofs.Common.{◌≡◌, refl, sym, ap, ◌∙◌, ℕ, zero, suc, ◌+◌, ◌-◌, ◌<◌, ◌≤◌, Bool, true, false, if◌then◌else◌, List, [], ◌∷◌, ◌++◌, length, get_or, drop, drop-cons, Option, Some, None, option_map, arith, subst}
use Rattle.std.proofs.Math.ListN.{set}
use Rattle.std.proofs.lemmas.List.{map-append, drop_all}
use Rattle.std.proofs.lemmas.Slice.Eq.{bytes_eq-Decides}
use Rattle.std.specs.declared.vec.Vec.{Vec}
use Rattle.std.specs.declared.alloc.Global.{Global}
use Rattle.mbe_rules.specs.Text.{same_text}
use Rattle.mbe_matcher.specs.Bindings.{rounds, Values, no_more, value, value_put, Map, binding_of, bind, with_round, bind_round}
use Rattle.mbe_matcher.specs.Bindings as b
use Rattle.mbe_matcher.specs.Bound.{standing_for, row_values, values_of, entry_of, entries_of, place_among}
use Rattle.mbe_matcher.specs.declared.bindings.Binding.{Binding, Rounds, Row_of-Binding, end_of-Binding, more_of-Binding, items-the_row-Binding, items_hidden-the_row-Binding-0}
use Rattle.mbe_matcher.specs.declared.bindings.Binding.TheBlock.{hidden-the_row-Binding-0}
use Rattle.mbe_matcher.specs.declared.bindings.Bound.{Bound}

row_values-list : {m : _} (row : Row_of-Binding m) → row_values row ≡ values_of (items-the_row-Binding m row)
row_values-list end_of-Binding = refl
row_values-list (more_of-Binding x row) = ap (value (standing_for x)) (row_values-list row)

-- what a vector of values stands for
pub standing-Rounds : (v : Vec Binding Global) → standing_for (Rounds v) ≡ rounds (values_of v.items)
standing-Rounds v = ap rounds (row_values-list (hidden-the_row-Binding-0 v) ∙ ap values_of (items_hidden-the_row-Binding-0 v))

-- an empty list more, where a round's value comes later, changes nothing
pub put-pad : (xs : List Binding) (x : Binding) (n : ℕ) (c : b.Binding) → standing_for x ≡ rounds no_more → length xs < n →
    value_put n c (values_of (xs ++ (x ∷ []))) ≡ value_put n c (values_of xs)
put-pad [] x zero c e h = absurd (omega arith)
put-pad [] x (suc n) c e h = let k : suc n - 1 ≡ n = omega arith in rw (e, k) refl
put-pad (y ∷ xs) x zero c e h = absurd (omega arith)
put-pad (y ∷ xs) x (suc n) c e h =
    let i : length xs < suc n - 1 = omega arith in ap (value (standing_for y)) (put-pad xs x (suc n - 1) c e i)

pub put-end : (xs : List Binding) (x : Binding) (n : ℕ) → n ≤ length xs → values_of (xs ++ (x ∷ [])) ≡ value_put n (standing_for x) (values_of xs)
put-end [] x zero h = refl
put-end [] x (suc n) h = absurd (omega arith)
put-end (y ∷ xs) x zero h = ap (value (standing_for y)) (put-end xs x (zero - 1) (omega arith))
put-end (y ∷ xs) x (suc n) h = ap (value (standing_for y)) (put-end xs x (suc n - 1) (omega arith))

-- ---- where a name stands

-- it stands among the entries from the i-th on, or nowhere
abbrev pub IsFrom : List ℕ → List Bound → ℕ → Type 0
IsFrom n xs i = place_among n xs ≡ option_map (λ k. i + k) (place_among n (drop i xs))

mapped-zero : (o : Option ℕ) → o ≡ option_map (λ k. 0 + k) o
mapped-zero None = refl
mapped-zero (Some k) = ap Some (omega arith)

pub from-start : (n : List ℕ) (xs : List Bound) → IsFrom n xs 0
from-start n xs = mapped-zero (place_among n xs)

mapped-suc : (i : ℕ) (o : Option ℕ) → option_map (λ k. i + k) (option_map suc o) ≡ option_map (λ k. suc i + k) o
mapped-suc i None = refl
mapped-suc i (Some k) = ap Some (omega arith)

cut-here : (n : List ℕ) (x : Bound) (xs : List Bound) (i : ℕ) → same_text n x.name.now ≡ true →
    option_map (λ k. i + k) (place_among n (x ∷ xs)) ≡ Some i
cut-here n x xs i e = go (same_text n x.name.now) e
  where
    go : (t : Bool) → t ≡ true → option_map (λ k. i + k) (if t then Some 0 else option_map suc (place_among n xs)) ≡ Some i
    go true e = ap Some (omega arith)
    go false e = absurd (cc e)

cut-next : (n : List ℕ) (x : Bound) (xs : List Bound) (i : ℕ) → same_text n x.name.now ≡ false →
    option_map (λ k. i + k) (place_among n (x ∷ xs)) ≡ option_map (λ k. suc i + k) (place_among n xs)
cut-next n x xs i e = go (same_text n x.name.now) e
  where
    go : (t : Bool) → t ≡ false → option_map (λ k. i + k) (if t then Some 0 else option_map suc (place_among n xs)) ≡ option_map (λ k. suc i + k) (place_among n xs)
    go true e = absurd (cc e)
    go false e = mapped-suc i (place_among n xs)

pub place-here : (n : List ℕ) (xs : List Bound) (i : ℕ) (x : Bound) → i < length xs → x ≡ get_or xs i x → same_text n x.name.now ≡ true →
    IsFrom n xs i → Some i ≡ place_among n xs
place-here n xs i x h e t from =
    let d : drop i xs ≡ x ∷ drop (suc i) xs = drop-cons xs i x h ∙ ap (λ y. y ∷ drop (suc i) xs) (sym e) in
    sym (from ∙ ap (λ l. option_map (λ k. i + k) (place_among n l)) d ∙ cut-here n x (drop (suc i) xs) i t)

pub place-next : (n : List ℕ) (xs : List Bound) (i j : ℕ) (x : Bound) → j ≡ suc i → i < length xs → x ≡ get_or xs i x → same_text n x.name.now ≡ false →
    IsFrom n xs i → IsFrom n xs j
place-next n xs i j x u h e t from =
    let d : drop i xs ≡ x ∷ drop (suc i) xs = drop-cons xs i x h ∙ ap (λ y. y ∷ drop (suc i) xs) (sym e) in
    rw u (from ∙ ap (λ l. option_map (λ k. i + k) (place_among n l)) d ∙ cut-next n x (drop (suc i) xs) i t)

pub place-none : (n : List ℕ) (xs : List Bound) (i : ℕ) → length xs ≤ i → IsFrom n xs i → None ≡ place_among n xs
place-none n xs i h from = sym (from ∙ ap (λ l. option_map (λ k. i + k) (place_among n l)) (drop_all i xs h))

-- ---- what a name is bound to

before-None : (o : Option ℕ) → option_map suc o ≡ None → o ≡ None
before-None None e = refl
before-None (Some k) e = absurd (cc e)

before-Some : (o : Option ℕ) (i : ℕ) → option_map suc o ≡ Some i → (j : ℕ) × ((i ≡ suc j) × (o ≡ Some j))
before-Some None i e = absurd (cc e)
before-Some (Some k) i e = (k, ((cc), refl))

-- by whether the first entry has the name
by-name : (n : List ℕ) (x : Bound) (xs : List Bound) (i : ℕ) (R : ℕ → Type 0) → (if same_text n x.name.now then Some 0 else option_map suc (place_among n xs)) ≡ Some i →
    (same_text n x.name.now ≡ true → R 0) → ((j : ℕ) → same_text n x.name.now ≡ false → place_among n xs ≡ Some j → R (suc j)) → R i
by-name n x xs i R e first later = go (same_text n x.name.now) e first later
  where
    go : (t : Bool) → (if t then Some 0 else option_map suc (place_among n xs)) ≡ Some i → (t ≡ true → R 0) →
        ((j : ℕ) → t ≡ false → place_among n xs ≡ Some j → R (suc j)) → R i
    go true e first later = let k : 0 ≡ i = cc in subst R k (first refl)
    go false e first later = let k = before-Some (place_among n xs) i e in subst R (sym k.1.0) (later k.0 refl k.1.1)

pub place-within : (n : List ℕ) (xs : List Bound) (i : ℕ) → place_among n xs ≡ Some i → i < length xs
place-within n [] i e = absurd (cc e)
place-within n (x ∷ xs) i e =
    by-name n x xs i (λ k. k < length (x ∷ xs)) e (λ t. omega arith) (λ j t f. let h = place-within n xs j f in omega arith)

same-name : (n m : List ℕ) → same_text n m ≡ true → m ≡ n
same-name n m e = sym ((bytes_eq-Decides n m).0 e)

pub name-at : (n : List ℕ) (xs : List Bound) (i : ℕ) (d : Bound) → place_among n xs ≡ Some i → (get_or xs i d).name.now ≡ n
name-at n [] i d e = absurd (cc e)
name-at n (x ∷ xs) i d e =
    by-name n x xs i (λ k. (get_or (x ∷ xs) k d).name.now ≡ n) e (λ t. same-name n x.name.now t) (λ j t f. name-at n xs j d f)

pub binding-at : (n : List ℕ) (xs : List Bound) (i : ℕ) (d : Bound) → place_among n xs ≡ Some i →
    binding_of n (entries_of xs) ≡ Some (standing_for (get_or xs i d).binding)
binding-at n [] i d e = absurd (cc e)
binding-at n (x ∷ xs) i d e =
    by-name n x xs i (λ k. binding_of n (entries_of (x ∷ xs)) ≡ Some (standing_for (get_or (x ∷ xs) k d).binding)) e
    (λ t. rw t refl) (λ j t f. rw t (binding-at n xs j d f))

pub bind-at : (n : List ℕ) (xs : List Bound) (i : ℕ) (y : Bound) → place_among n xs ≡ Some i → y.name.now ≡ n →
    entries_of (set xs i y) ≡ bind n (standing_for y.binding) (entries_of xs)
bind-at n [] i y e m = absurd (cc e)
bind-at n (x ∷ xs) i y e m =
    by-name n x xs i (λ k. entries_of (set (x ∷ xs) k y) ≡ bind n (standing_for y.binding) (entries_of (x ∷ xs))) e
    (λ t. rw (t, m) refl) (λ j t f. rw t (ap (λ r. entry_of x ∷ r) (bind-at n xs j y f m)))

bind-none : (n : List ℕ) (c : b.Binding) (xs : List Bound) → place_among n xs ≡ None → bind n c (entries_of xs) ≡ entries_of xs ++ ((n, c) ∷ [])
bind-none n c [] e = refl
bind-none n c (x ∷ xs) e = go (same_text n x.name.now) e (λ f. bind-none n c xs f)
  where
    go : (t : Bool) → (if t then Some 0 else option_map suc (place_among n xs)) ≡ None →
        (place_among n xs ≡ None → bind n c (entries_of xs) ≡ entries_of xs ++ ((n, c) ∷ [])) →
        (if t then (n, c) ∷ entries_of xs else entry_of x ∷ bind n c (entries_of xs)) ≡ entry_of x ∷ (entries_of xs ++ ((n, c) ∷ []))
    go true e h = absurd (cc e)
    go false e h = ap (λ m. entry_of x ∷ m) (h (before-None (place_among n xs) e))

pub binding-none : (n : List ℕ) (xs : List Bound) → place_among n xs ≡ None → binding_of n (entries_of xs) ≡ None
binding-none n [] e = refl
binding-none n (x ∷ xs) e = go (same_text n x.name.now) e (λ f. binding-none n xs f)
  where
    go : (t : Bool) → (if t then Some 0 else option_map suc (place_among n xs)) ≡ None →
        (place_among n xs ≡ None → binding_of n (entries_of xs) ≡ None) →
        (if t then Some (standing_for x.binding) else binding_of n (entries_of xs)) ≡ None
    go true e h = absurd (cc e)
    go false e h = h (before-None (place_among n xs) e)

pub bind-last : (n : List ℕ) (xs : List Bound) (y : Bound) → place_among n xs ≡ None → y.name.now ≡ n →
    entries_of (xs ++ (y ∷ [])) ≡ bind n (standing_for y.binding) (entries_of xs)
bind-last n xs y e m =
    map-append entry_of xs (y ∷ []) ∙ ap (λ k. entries_of xs ++ ((k, standing_for y.binding) ∷ [])) m ∙ sym (bind-none n (standing_for y.binding) xs e)

-- an entry of the name has its value of a round
pub bind-changed : (n : List ℕ) (xs : List Bound) (i k : ℕ) (c : b.Binding) (d y : Bound) → place_among n xs ≡ Some i → y.name.now ≡ (get_or xs i d).name.now →
    standing_for y.binding ≡ with_round k c (Some (standing_for (get_or xs i d).binding)) →
    entries_of (set xs i y) ≡ bind n (with_round k c (binding_of n (entries_of xs))) (entries_of xs)
bind-changed n xs i k c d y e m f =
    bind-at n xs i y e (m ∙ name-at n xs i d e) ∙ ap (λ v. bind n v (entries_of xs)) (f ∙ sym (ap (with_round k c) (binding-at n xs i d e)))

-- or a new entry has it
pub bind-first : (n : List ℕ) (xs : List Bound) (k : ℕ) (c : b.Binding) (y : Bound) → place_among n xs ≡ None → y.name.now ≡ n →
    standing_for y.binding ≡ with_round k c None →
    entries_of (xs ++ (y ∷ [])) ≡ bind n (with_round k c (binding_of n (entries_of xs))) (entries_of xs)
bind-first n xs k c y e m f =
    bind-last n xs y e m ∙ ap (λ v. bind n v (entries_of xs)) (f ∙ sym (ap (with_round k c) (binding-none n xs e)))

-- the one name that is bound
pub bound-alone : (n : List ℕ) (xs : List Bound) (x : Bound) → length xs ≡ 1 → x ≡ get_or xs 0 x → same_text n x.name.now ≡ true →
    (b : b.Binding) × (entries_of xs ≡ (n, b) ∷ [])
bound-alone n [] x l e t = absurd (omega (arith, l))
bound-alone n (y ∷ []) x l e t = (standing_for y.binding, ap (λ m. (m, standing_for y.binding) ∷ []) (ap (λ z. z.name.now) (sym e) ∙ same-name n x.name.now t))
bound-alone n (y ∷ z ∷ xs) x l e t = absurd (omega (arith, l))

-- and its entry
pub entry-alone : (n : List ℕ) (c : b.Binding) (xs : List Bound) → entries_of xs ≡ (n, c) ∷ [] →
    (x : Bound) × (xs ≡ x ∷ []) × (x.name.now ≡ n) × (standing_for x.binding ≡ c)
entry-alone n c [] e = absurd (cc e)
entry-alone n c (x ∷ []) e = let h : entry_of x ≡ (n, c) = cc in (x, refl, ap (λ y. y.0) h, ap (λ y. y.1) h)
entry-alone n c (x ∷ y ∷ xs) e = absurd (cc e)
