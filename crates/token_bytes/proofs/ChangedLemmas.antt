-- Elements that are changed, one after another.
use Rattle.std.proofs.Common.{◌≡◌, ℕ, zero, suc, ◌<◌, List, [], ◌∷◌, map, refl, ap, length, set, get_or, arith}

-- a list of which so many elements are changed
abbrev pub changed_up_to : {A : Type 0} → (A → A) → ℕ → List A → List A
changed_up_to f zero xs = xs
changed_up_to f (suc n) [] = []
changed_up_to f (suc n) (x ∷ xs) = f x ∷ changed_up_to f n xs

pub changed_all : {A : Type 0} (f : A → A) (n : ℕ) (xs : List A) → n ≡ length xs → changed_up_to f n xs ≡ map f xs
changed_all f zero [] e = refl
changed_all f (suc n) [] e = refl
changed_all f zero (x ∷ xs) e = absurd (omega (arith, e))
changed_all f (suc n) (x ∷ xs) e = ap (λ more. f x ∷ more) (changed_all f n xs (omega (arith, e)))

pub changed_next : {A : Type 0} (f : A → A) (n : ℕ) (xs : List A) (d : A) → n < length xs
    → set (changed_up_to f n xs) n (f (get_or (changed_up_to f n xs) n d)) ≡ changed_up_to f (suc n) xs
changed_next f zero [] d h = absurd (omega (arith, h))
changed_next f zero (x ∷ xs) d h = refl
changed_next f (suc n) [] d h = absurd (omega (arith, h))
changed_next f (suc n) (x ∷ xs) d h = ap (λ more. f x ∷ more) (changed_next f n xs d (omega (arith, h)))
