-- What is kept of paths has the sorts of all.
use Rattle.std.proofs.Common.{◌⊎◌, inl, inr, sym, subst, Bool, List, [], ◌∷◌, ◌++◌, Option}
use Rattle.mbe_matcher.specs.Paths.{IsAmong}
use Rattle.mbe_matcher.specs.Settled.{IsKept, IsTwice, sort_of, sorts}
use Rattle.mbe_matcher.specs.Waiting.{Waiting}
use Rattle.mbe_matcher.proofs.KeptLemmas.{among-left, sorts-append}
use Rattle.mbe_matcher.proofs.PathListLemmas.{among-append}

pub once : {A : Type 0} (x : A) (xs : List A) → IsTwice x xs → IsAmong x xs
once x [] h = absurd h
once x (y ∷ xs) (inl h) = inl h.0
once x (y ∷ xs) (inr h) = inr (once x xs h)

module _ {M S : Type 0} where
  -- each sort that is kept is one of all
  pub kept-of-all : (before all kept : List (Waiting M S)) → IsKept before all kept → (k : Option (Bool × S)) → IsAmong k (sorts kept) → IsAmong k (sorts all)
  kept-of-all before [] kept e k a = subst (λ x. IsAmong k (sorts x)) e a
  kept-of-all before (w ∷ all) kept (inl (rest, e, h)) k a =
      go (λ b. kept-of-all (before ++ (w ∷ [])) all rest h k b) (subst (λ x. IsAmong k (sorts x)) e a)
    where
      go : (IsAmong k (sorts rest) → IsAmong k (sorts all)) → IsAmong k (sorts (w ∷ rest)) → IsAmong k (sorts (w ∷ all))
      go f (inl i) = inl i
      go f (inr b) = inr (f b)
  kept-of-all before (w ∷ all) kept (inr (t, h)) k a = inr (kept-of-all (before ++ (w ∷ [])) all kept h k a)

  -- each sort is kept, or comes before
  all-or-before : (before all kept : List (Waiting M S)) → IsKept before all kept → (k : Option (Bool × S)) → IsAmong k (sorts all) →
      IsAmong k (sorts before) ⊎ IsAmong k (sorts kept)
  all-or-before before [] kept e k a = absurd a
  all-or-before before (w ∷ all) kept (inl (rest, e, h)) k a = go (λ b. all-or-before (before ++ (w ∷ [])) all rest h k b) a
    where
      in-kept : IsAmong k (sorts (w ∷ rest)) → IsAmong k (sorts before) ⊎ IsAmong k (sorts kept)
      in-kept b = inr (subst (λ x. IsAmong k (sorts x)) (sym e) b)

      go : (IsAmong k (sorts all) → IsAmong k (sorts (before ++ (w ∷ []))) ⊎ IsAmong k (sorts rest)) →
          IsAmong k (sorts (w ∷ all)) → IsAmong k (sorts before) ⊎ IsAmong k (sorts kept)
      go f (inl i) = in-kept (inl i)
      go f (inr b) =
          elim (f b) [
            | inl c ↦
                elim (among-append k (sorts before) (sort_of w ∷ []) (subst (IsAmong k) (sorts-append before (w ∷ [])) c)) [
                  | inl d ↦ inl d
                  | inr d ↦ in-kept (among-left k (sort_of w ∷ []) (sorts rest) d)
                ]
            | inr c ↦ in-kept (inr c)
          ]
  all-or-before before (w ∷ all) kept (inr (t, h)) k a = go (λ b. all-or-before (before ++ (w ∷ [])) all kept h k b) a
    where
      go : (IsAmong k (sorts all) → IsAmong k (sorts (before ++ (w ∷ []))) ⊎ IsAmong k (sorts kept)) →
          IsAmong k (sorts (w ∷ all)) → IsAmong k (sorts before) ⊎ IsAmong k (sorts kept)
      go f (inl i) = inl (subst (λ x. IsAmong x (sorts before)) i (once (sort_of w) (sorts before) t))
      go f (inr b) =
          elim (f b) [
            | inl c ↦
                elim (among-append k (sorts before) (sort_of w ∷ []) (subst (IsAmong k) (sorts-append before (w ∷ [])) c)) [
                  | inl d ↦ inl d
                  | inr (inl i) ↦ inl (subst (λ x. IsAmong x (sorts before)) i (once (sort_of w) (sorts before) t))
                  | inr (inr d) ↦ absurd d
                ]
            | inr c ↦ inr c
          ]

  -- each sort of all is kept
  pub all-are-kept : (all kept : List (Waiting M S)) → IsKept [] all kept → (k : Option (Bool × S)) → IsAmong k (sorts all) → IsAmong k (sorts kept)
  all-are-kept all kept h k a = elim (all-or-before [] all kept h k a) [ inl b ↦ absurd b | inr b ↦ b ]
