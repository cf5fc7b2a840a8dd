-- Texts that begin with another byte.
use Rattle.std.proofs.Common.{◌≡◌, refl, sym, ◌∙◌, ℕ, Bool, true, false, List, ◌∷◌}
use Rattle.std.proofs.lemmas.Slice.Eq.{bytes_eq-Decides}
use Rattle.small_grammar.specs.Text.{same_text}

head-same : {a b : ℕ} {xs ys : List ℕ} → (a ∷ xs) ≡ (b ∷ ys) → a ≡ b
head-same e = cc e

pub other_start : (t k : List ℕ) (a b : ℕ) (xs ys : List ℕ) → t ≡ a ∷ xs → k ≡ b ∷ ys → (a ≡ b → ⊥) → false ≡ same_text t k
other_start t k a b xs ys p q h = go (same_text t k) refl
  where
    go : (s : Bool) → same_text t k ≡ s → false ≡ same_text t k
    go false e = sym e
    go true e = absurd (h (head-same (sym p ∙ (bytes_eq-Decides t k).0 e ∙ q)))
