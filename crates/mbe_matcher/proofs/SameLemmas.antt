-- Byte strings that are equal, or differ.
use Rattle.std.proofs.Common.{◌≡◌, refl, sym, ap, ◌∙◌, ℕ, ◌+◌, ◌<◌, ◌≤◌, Bool, true, false, List, length, get_or, take}
use Rattle.std.specs.Str.{bytes_eq}
use Rattle.std.proofs.lemmas.List.{take_all, take_more_same, get_or_default}
use Rattle.std.proofs.lemmas.Slice.Eq.{bytes_eq-Decides}

others : (a b : List ℕ) → (a ≡ b → ⊥) → false ≡ bytes_eq a b
others a b h = go (bytes_eq a b) refl
  where
    go : (t : Bool) → bytes_eq a b ≡ t → false ≡ bytes_eq a b
    go false e = sym e
    go true e = absurd (h ((bytes_eq-Decides a b).0 e))

pub other-length : (a b : List ℕ) → (length a ≡ length b → ⊥) → false ≡ bytes_eq a b
other-length a b h = others a b (λ e. h (ap length e))

pub other-byte : (a b : List ℕ) (i d e : ℕ) → i < length a → (get_or a i d ≡ get_or b i e → ⊥) → false ≡ bytes_eq a b
other-byte a b i d e k h = others a b (λ q. h (get_or_default a i d e k ∙ ap (λ l. get_or l i e) q))

pub more-same : (a b : List ℕ) (i d e : ℕ) → i < length a → i < length b → get_or a i d ≡ get_or b i e →
    take i a ≡ take i b → take (i + 1) a ≡ take (i + 1) b
more-same a b i d e k m s t = take_more_same a b i d k m t (s ∙ get_or_default b i e d m)

pub all-same : (a b : List ℕ) (i : ℕ) → length a ≤ i → length b ≤ i → take i a ≡ take i b → true ≡ bytes_eq a b
all-same a b i k m t = sym ((bytes_eq-Decides a b).1 (sym (take_all i a k) ∙ t ∙ take_all i b m))
