-- Definitions added to a prelude, one after another.
use Rattle.std.proofs.Common.{◌≡◌, ℕ, suc, ◌<◌, List, [], ◌∷◌, ◌++◌, append_assoc, drop, get_or, length, take, Option, Some, None, refl, ap, sym, ◌∙◌}
use Rattle.std.specs.Prelude.{All, filter_map}
use Rattle.std.proofs.lemmas.List.Elements.{All-cons, All-head, All-nil, All-tail}
use Rattle.tt_data.specs.Forest.{Forest}
use Rattle.expander_sources.specs.Sources.{Item}
use Rattle.expander_sources.proofs.SourceLemmas.{next_left}

module _ (pick : Item → Option Forest) where
  picked_first : (item : Item) (rest : List Item) (p : Forest) → pick item ≡ Some p → filter_map pick (item ∷ rest) ≡ p ∷ filter_map pick rest
  picked_first item rest p e = rw e refl

  none_first : (item : Item) (rest : List Item) → pick item ≡ None → filter_map pick (item ∷ rest) ≡ filter_map pick rest
  none_first item rest e = rw e refl

  -- one that is picked
  pub more_picks : (items : List Item) (i : ℕ) (item : Item) (p : Forest) (before after : List Forest) → i < length items → item ≡ get_or items i item
      → pick item ≡ Some p → after ≡ before ++ p ∷ []
      → after ++ filter_map pick (drop (suc i) items) ≡ before ++ filter_map pick (drop i items)
  more_picks items i item p before after h is picks added =
      ap (λ (xs : List Forest). xs ++ filter_map pick (drop (suc i) items)) added
      ∙ append_assoc before (p ∷ []) (filter_map pick (drop (suc i) items))
      ∙ ap (λ (xs : List Forest). before ++ xs) (sym (picked_first item (drop (suc i) items) p picks))
      ∙ ap (λ (xs : List Item). before ++ filter_map pick xs) (sym (next_left items i item h is))

  -- one that isn't
  pub same_picks : (items : List Item) (i : ℕ) (item : Item) (before : List Forest) → i < length items → item ≡ get_or items i item → pick item ≡ None
      → before ++ filter_map pick (drop (suc i) items) ≡ before ++ filter_map pick (drop i items)
  same_picks items i item before h is none =
      ap (λ (xs : List Forest). before ++ xs) (sym (none_first item (drop (suc i) items) none))
      ∙ ap (λ (xs : List Item). before ++ filter_map pick xs) (sym (next_left items i item h is))

pub take_more : (a b c : List Forest) → take (length a) b ≡ a → take (length a) (b ++ c) ≡ a
take_more [] b c e = refl
take_more (x ∷ a) [] c e = cc
take_more (x ∷ a) (y ∷ b) c e =
    let first : y ≡ x = cc in
    let rest : take (length a) b ≡ a = cc in
    ap (λ (z : Forest). z ∷ take (length a) (b ++ c)) first ∙ ap (λ (zs : List Forest). x ∷ zs) (take_more a b c rest)

pub all_and : {X : Type 0} (P : X → Type 0) (xs : List X) (x : X) → All P xs → P x → All P (xs ++ x ∷ [])
all_and P [] x h k = All-cons P x [] k (All-nil P)
all_and P (y ∷ ys) x h k = All-cons P y (ys ++ x ∷ []) (All-head P y ys h) (all_and P ys x (All-tail P y ys h) k)
