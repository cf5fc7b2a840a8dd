-- The threads that wait at the next position.
use Rattle.std.proofs.Common.{◌≡◌, ap, ◌∙◌, ℕ, zero, suc, ◌+◌, ◌<◌, List, [], ◌∷◌, ◌++◌, map, take, get_or, length, arith}
use Rattle.std.specs.List.{flat_map}
use Rattle.std.proofs.lemmas.List.{map-append, take_more}
use Rattle.std.proofs.lemmas.Grind.{flat_map-append}
use Rattle.std.proofs.lemmas.List.{append-nil}
use Rattle.mbe_matcher.specs.Waiting.{Each}

pub each-at : {A B : Type 0} (Q : B → Type 0) (f : A → B) (xs : List A) (i : ℕ) (d : A) → Each Q (map f xs) → i < length xs → Q (f (get_or xs i d))
each-at Q f [] i d h k = absurd (omega arith)
each-at Q f (x ∷ xs) zero d h k = h.0
each-at Q f (x ∷ xs) (suc i) d h k = each-at Q f xs i d h.1 (omega arith)

pub flat_map-take : {A B C : Type 0} (g : B → List C) (f : A → B) (xs : List A) (i : ℕ) (d : A) → i < length xs →
    flat_map g (map f (take (i + 1) xs)) ≡ flat_map g (map f (take i xs)) ++ g (f (get_or xs i d))
flat_map-take g f xs i d h =
    ap (λ ys. flat_map g (map f ys)) (take_more xs i d h)
    ∙ ap (flat_map g) (map-append f (take i xs) (get_or xs i d ∷ []))
    ∙ flat_map-append g (map f (take i xs)) (f (get_or xs i d) ∷ [])
    ∙ ap (λ x. flat_map g (map f (take i xs)) ++ x) (append-nil (g (f (get_or xs i d))))
