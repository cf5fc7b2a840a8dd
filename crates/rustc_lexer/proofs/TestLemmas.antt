-- What the results of character tests imply.
use Rattle.std.proofs.Common.{◌≡◌, ℕ, ◌==◌, Bool, true, false, ◌&&◌, ◌||◌, List, [], ◌∷◌, refl, ◌∙◌, ap, arith}
use Rattle.std.proofs.lemmas.Bool.{false≢true}
use Rattle.std.proofs.lemmas.Bool.Decides.{nat_tests}
use Rattle.std.specs.List.{list_all, list_any}

pub no : {X : Type 0} → false ≡ true → X
no e = absurd (false≢true e)

-- of two tests that hold, each does
pub both : {X : Type 0} (u v : Bool) → (u && v) ≡ true → (u ≡ true → v ≡ true → X) → X
both true v h f = f refl h
both false v h f = no h

-- what is told of each of some characters is told of one of them
pub told_of_any : (q : ℕ → Bool) (c : ℕ) (ws : List ℕ) → list_all q ws ≡ true → list_any (λ w. c == w) ws ≡ true → q c ≡ true
told_of_any q c [] a h = no h
told_of_any q c (w ∷ ws) a h = by_test (c == w) (q w) refl refl a h (told_of_any q c ws)
  where
    by_test : (u v : Bool) → (c == w) ≡ u → q w ≡ v → (v && list_all q ws) ≡ true → (u || list_any (λ x. c == x) ws) ≡ true →
        (list_all q ws ≡ true → list_any (λ x. c == x) ws ≡ true → q c ≡ true) → q c ≡ true
    by_test true true e f a h again = (let same : c ≡ w = grind (arith, nat_tests) in ap q same ∙ f)
    by_test false true e f a h again = again a h
    by_test u false e f a h again = no a
