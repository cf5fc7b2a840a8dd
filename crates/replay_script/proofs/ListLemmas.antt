-- Lists in a text, with a mark between two items, that are read from the left.
use Rattle.std.proofs.Common.{◌≡◌, ℕ, List, [], ◌∷◌, ◌++◌, sym, ◌∙◌, subst, append_assoc}
use Rattle.replay_script.specs.Words.{Lacks, Lists}
use Rattle.replay_script.proofs.WordLemmas.{cut_same, without_mark}

module _ {A : Type 0} (mark : ℕ) (Is : List ℕ → A → Type 0) where
  -- these items were read, and this is left: what it lists, or that it lists nothing, is so of all
  pub record Splits (text : List ℕ) (xs : List A) (rest : List ℕ) : Type 0 where
    pub more : (ys : List A) → Lists mark Is rest ys → Lists mark Is text (xs ++ ys)
    pub none : ((ys : List A) → Lists mark Is rest ys → ⊥) → (ys : List A) → Lists mark Is text ys → ⊥

  pub splits_none : (text : List ℕ) → Splits text [] text
  splits_none text = record { more = λ ys h. h; none = λ h. h }

  -- one item before a list
  before : (rest part behind : List ℕ) (x : A) → rest ≡ part ++ mark ∷ behind → Lacks mark part → Is part x → (ys : List A) → Lists mark Is behind ys
      → Lists mark Is rest (x ∷ ys)
  before rest part behind x is one here [] h = absurd h
  before rest part behind x is one here (y ∷ ys) h = (part, behind, is, one, here, h)

  -- what a text with a mark lists begins with its first part
  first_is : (rest part behind : List ℕ) → rest ≡ part ++ mark ∷ behind → Lacks mark part → (ys : List A) → Lists mark Is rest ys
      → (x : A) × Is part x × ((more : List A) × Lists mark Is behind more)
  first_is rest part behind is one [] h = absurd h
  first_is rest part behind is one (y ∷ []) h = absurd (without_mark mark rest part behind h.0 is)
  first_is rest part behind is one (y ∷ z ∷ zs) (p, r, e, other, here, later) =
      let same = cut_same mark p r part behind (sym e ∙ is) other one in
      (y, subst (λ (w : List ℕ). Is w y) same.0 here, (z ∷ zs, subst (λ (w : List ℕ). Lists mark Is w (z ∷ zs)) same.1 later))

  -- one item more is read
  pub splits_more : (text rest part behind : List ℕ) (xs now : List A) (x : A) → Splits text xs rest → rest ≡ part ++ mark ∷ behind → Lacks mark part
      → Is part x → now ≡ xs ++ x ∷ [] → Splits text now behind
  splits_more text rest part behind xs now x so_far is one here added = record {
    more = λ ys h. subst (λ (n : List A). Lists mark Is text (n ++ ys)) (sym added)
        (subst (λ (all : List A). Lists mark Is text all) (sym (append_assoc xs (x ∷ []) ys))
        (so_far.more (x ∷ ys) (before rest part behind x is one here ys h)));
    none = λ bad. so_far.none (λ ys h.
        let first = first_is rest part behind is one ys h in
        bad first.2.0 first.2.1);
  }

  -- the last item is read
  pub splits_last : (text rest : List ℕ) (xs now : List A) (x : A) → Splits text xs rest → Lacks mark rest → Is rest x → now ≡ xs ++ x ∷ []
      → Lists mark Is text now
  splits_last text rest xs now x so_far one here added =
      subst (λ (n : List A). Lists mark Is text n) (sym added) (so_far.more (x ∷ []) (one, here))

  -- a part is no item
  pub bad_part : (text rest part behind : List ℕ) (xs : List A) → Splits text xs rest → rest ≡ part ++ mark ∷ behind → Lacks mark part
      → ((x : A) → Is part x → ⊥) → (ys : List A) → Lists mark Is text ys → ⊥
  bad_part text rest part behind xs so_far is one bad = so_far.none (λ ys h.
      let first = first_is rest part behind is one ys h in
      bad first.0 first.1)

  last_is : (rest : List ℕ) → Lacks mark rest → ((x : A) → Is rest x → ⊥) → (ys : List A) → Lists mark Is rest ys → ⊥
  last_is rest one bad [] h = h
  last_is rest one bad (x ∷ []) h = bad x h.1
  last_is rest one bad (x ∷ y ∷ ys) (p, r, e, other, here, later) = without_mark mark rest p r one e

  -- the last part is no item
  pub bad_last : (text rest : List ℕ) (xs : List A) → Splits text xs rest → Lacks mark rest → ((x : A) → Is rest x → ⊥)
      → (ys : List A) → Lists mark Is text ys → ⊥
  bad_last text rest xs so_far one bad = so_far.none (last_is rest one bad)
