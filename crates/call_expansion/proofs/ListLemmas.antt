-- Lists that are filtered, and lists that a loop goes through.
use Rattle.std.proofs.Common.{◌≡◌, ◌<◌, ◌≤◌, ◌+◌, ℕ, zero, suc, List, [], ◌∷◌, ◌++◌, refl, sym, ap, ◌∙◌, arith, Bool, true, false, cond, drop, get_or, length, map, take}
use Rattle.std.specs.Prelude.{◌||◌, filter}
use Rattle.std.specs.List.{list_any}
use Rattle.std.proofs.lemmas.List.{at_drop_all, at_drop_more, map-append}

pub filter-append : {X : Type 0} (p : X → Bool) (xs ys : List X) → filter p (xs ++ ys) ≡ filter p xs ++ filter p ys
filter-append p [] ys = refl
filter-append {X} p (x ∷ xs) ys = go (p x) (filter-append p xs ys)
  where
    go : (b : Bool) → filter p (xs ++ ys) ≡ filter p xs ++ filter p ys → cond b (x ∷ filter p (xs ++ ys)) (filter p (xs ++ ys)) ≡ cond b (x ∷ filter p xs) (filter p xs) ++ filter p ys
    go true e = ap (λ zs. x ∷ zs) e
    go false e = e

-- one of what is made of a list
pub any-map : {X Y : Type 0} (f : X → Y) (p : Y → Bool) (xs : List X) → list_any (λ x. p (f x)) xs ≡ list_any p (map f xs)
any-map f p [] = refl
any-map f p (x ∷ xs) = ap (λ b. p (f x) || b) (any-map f p xs)

-- ---- the rest of a list from an index on

-- what a function of lists gives for the rest
pub at_next : {X Y : Type 0} (F : List X → Y) (xs : List X) (i : ℕ) (x : X) → i < length xs → x ≡ get_or xs i x → F (drop i xs) ≡ F (x ∷ drop (i + 1) xs)
at_next F xs i x inside is = at_drop_more F xs i x inside ∙ ap (λ z. F (z ∷ drop (i + 1) xs)) (sym is)

or_here : (a b : Bool) → a ≡ true → (a || b) ≡ true
or_here true b e = refl
or_here false b e = absurd (cc e)

or_later : (a b : Bool) → a ≡ false → (a || b) ≡ b
or_later false b e = refl
or_later true b e = absurd (cc e)

-- one that passes is there
pub any_here : {X : Type 0} (p : X → Bool) (xs : List X) (i : ℕ) (d : X) → i < length xs → p (get_or xs i d) ≡ true → list_any p (drop i xs) ≡ true
any_here p xs i d inside e = at_drop_more (list_any p) xs i d inside ∙ or_here (p (get_or xs i d)) _ e

-- one that does not pass is passed by
pub any_later : {X : Type 0} (p : X → Bool) (xs : List X) (i : ℕ) (d : X) → i < length xs → p (get_or xs i d) ≡ false
    → list_any p (drop i xs) ≡ list_any p (drop (i + 1) xs)
any_later p xs i d inside e = at_drop_more (list_any p) xs i d inside ∙ or_later (p (get_or xs i d)) _ e

-- none is left
pub any_none : {X : Type 0} (p : X → Bool) (xs : List X) (i : ℕ) → length xs ≤ i → list_any p (drop i xs) ≡ false
any_none p xs i past = at_drop_all (list_any p) xs i past

-- all of them
pub taken_all : {X Y : Type 0} (f : X → Y) (xs : List X) (i : ℕ) → length xs ≤ i → map f (take i xs) ≡ map f xs
taken_all f [] zero past = refl
taken_all f [] (suc i) past = refl
taken_all f (x ∷ xs) zero past = absurd (omega (arith, past))
taken_all f (x ∷ xs) (suc i) past = ap (λ ys. f x ∷ ys) (taken_all f xs i (omega (arith, past)))

-- one more of those so far
take_more : {X : Type 0} (xs : List X) (i : ℕ) (x : X) → i < length xs → x ≡ get_or xs i x → take (suc i) xs ≡ take i xs ++ x ∷ []
take_more [] i x h is = absurd (omega (arith, h))
take_more (y ∷ xs) zero x h is = ap (λ z. z ∷ []) (sym is)
take_more (y ∷ xs) (suc i) x h is = ap (λ zs. y ∷ zs) (take_more xs i x (omega (arith, h)) is)

pub mapped_more : {X Y : Type 0} (f : X → Y) (xs : List X) (i : ℕ) (x : X) → i < length xs → x ≡ get_or xs i x → map f (take (i + 1) xs) ≡ map f (take i xs) ++ f x ∷ []
mapped_more f xs i x inside is =
    let e : i + 1 ≡ suc i = omega arith in
    rw e (ap (map f) (take_more xs i x inside is) ∙ map-append f (take i xs) (x ∷ []))
