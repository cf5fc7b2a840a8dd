-- Lists by index: the element at an index, front parts, and maps over a list.
use Rattle.std.proofs.Common.{◌≡◌, ℕ, ◌<◌, ◌≤◌, ◌+◌, ◌++◌, ◌∙◌, drop, take, zero, suc, Bool, false, List, [], ◌∷◌, length, get_or, map, Some, refl, ap, sym, arith}
use Rattle.std.specs.Prelude.{◌||◌, slice_get}
use Rattle.std.specs.List.{list_any}
use Rattle.std.proofs.lemmas.List.{drop_more, map-append}

pub get_front : {X : Type 0} (xs ys : List X) (i : ℕ) → i < length xs → slice_get (xs ++ ys) i ≡ slice_get xs i
get_front [] ys i h = absurd (omega (arith, h))
get_front (x ∷ xs) ys zero h = refl
get_front (x ∷ xs) ys (suc i) h = get_front xs ys i (omega (arith, h))

pub get_last : {X : Type 0} (xs : List X) (y : X) → slice_get (xs ++ y ∷ []) (length xs) ≡ Some y
get_last [] y = refl
get_last (x ∷ xs) y = get_last xs y

pub get_none : {X : Type 0} (xs : List X) (x : X) (i : ℕ) → slice_get xs i ≡ Some x → i < length xs
get_none [] x i e = cc
get_none (y ∷ xs) x zero e = omega arith
get_none (y ∷ xs) x (suc i) e = let h = get_none xs x i e in omega (arith, h)

pub take_more : {X : Type 0} (xs : List X) (i : ℕ) (x : X) → slice_get xs i ≡ Some x → take (suc i) xs ≡ take i xs ++ x ∷ []
take_more [] i x e = cc
take_more (y ∷ xs) zero x e = let same : y ≡ x = cc in ap (λ z. z ∷ []) same
take_more (y ∷ xs) (suc i) x e = ap (λ zs. y ∷ zs) (take_more xs i x e)

pub in_range : {X Y : Type 0} (f : X → Y) (xs : List X) (i : ℕ) (y : Y) → slice_get (map f xs) i ≡ Some y → i < length xs
in_range f [] i y e = cc
in_range f (x ∷ xs) zero y e = omega arith
in_range f (x ∷ xs) (suc i) y e = let h = in_range f xs i y e in omega (arith, h)

pub mapped_length : {X Y : Type 0} (f : X → Y) (xs : List X) → length (map f xs) ≡ length xs
mapped_length f [] = refl
mapped_length f (x ∷ xs) = ap suc (mapped_length f xs)

-- what stands at a place within range
pub stands_at : {X : Type 0} (xs : List X) (i : ℕ) (x : X) → i < length xs → x ≡ get_or xs i x → slice_get xs i ≡ Some x
stands_at [] i x h e = absurd (omega (arith, h))
stands_at (y ∷ xs) zero x h e = ap Some (sym e)
stands_at (y ∷ xs) (suc i) x h e = stands_at xs i x (omega (arith, h)) e

-- one that does not pass is passed by
pub passed_by : {X : Type 0} (p : X → Bool) (xs : List X) (i : ℕ) (x : X) → i < length xs → x ≡ get_or xs i x → p x ≡ false → list_any p (drop i xs) ≡ list_any p (drop (i + 1) xs)
passed_by p xs i x inside is fails =
    ap (list_any p) (drop_more xs i x inside) ∙ ap (λ b. b || list_any p (drop (i + 1) xs)) (ap p (sym is) ∙ fails)

-- one more of those so far
pub mapped_more : {X Y : Type 0} (f : X → Y) (xs : List X) (i : ℕ) (x : X) → i < length xs → x ≡ get_or xs i x → map f (take (i + 1) xs) ≡ map f (take i xs) ++ f x ∷ []
mapped_more f xs i x inside is =
    let e : i + 1 ≡ suc i = omega arith in
    rw e (ap (map f) (take_more xs i x (stands_at xs i x inside is)) ∙ map-append f (take i xs) (x ∷ []))

-- all of them
pub all_mapped : {X Y : Type 0} (f : X → Y) (xs : List X) (i : ℕ) → length xs ≤ i → map f (take i xs) ≡ map f xs
all_mapped f [] zero past = refl
all_mapped f [] (suc i) past = refl
all_mapped f (x ∷ xs) zero past = absurd (omega (arith, past))
all_mapped f (x ∷ xs) (suc i) past = ap (λ ys. f x ∷ ys) (all_mapped f xs i (omega (arith, past)))

-- what stands at a place of what is made of a list is made of what stands there
pub at_place : {X Y : Type 0} (f : X → Y) (xs : List X) (i : ℕ) (x : X) (y : Y) → slice_get xs i ≡ Some x → slice_get (map f xs) i ≡ Some y → f x ≡ y
at_place f [] i x y e g = cc
at_place f (z ∷ xs) zero x y e g = let same : z ≡ x = cc in let is : f z ≡ y = cc in ap f (sym same) ∙ is
at_place f (z ∷ xs) (suc i) x y e g = at_place f xs i x y e g
