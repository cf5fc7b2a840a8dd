-- Different trees have different ids.
use Rattle.std.proofs.Common.{◌≡◌, ◌≢◌, ◌↔◌, ℕ, ◌+◌, ◌≤◌, Bool, true, false, cond, List, [], ◌∷◌, map, Option, Some, None, refl, ap, sym, subst, ◌∙◌, arith}
use Rattle.std.specs.Prelude.{All, Contains, ◌||◌, unwrap_or}
use Rattle.std.specs.List.{list_any}
use Rattle.std.proofs.lemmas.List.Elements.{All-cons, All-contains, All-contains_itself, All-head, All-nil, All-tail}
use Rattle.tt_data.specs.Forest.{Forest}
use Rattle.expander_model.specs.EqualTrees.{same_forest}
use Rattle.expander_model.specs.Held.{TellsApart}
use Rattle.expander_scope.specs.Numbers.{AreEntries, Entry, Numbering, number_in, number_of, tree_of, with_number, with_trees}
use Rattle.expander_scope.specs.NewNumbers.{needed}
use Rattle.expander_scope.proofs.HeldLemmas.{some_is}

all_map : {X : Type 0} → (P Q : X → Type 0) → ((x : X) → P x → Q x) → (xs : List X) → All P xs → All Q xs
all_map P Q f [] h = All-nil Q
all_map P Q f (x ∷ xs) h = All-cons Q x xs (f x (All-head P x xs h)) (all_map P Q f xs (All-tail P x xs h))

above_is_free : (given : ℕ) (es : List Entry) → AreEntries given es → All (λ (x : Entry). x.number ≢ 1 + given) es
above_is_free given [] h = All-nil (λ (x : Entry). x.number ≢ 1 + given)
above_is_free given (e ∷ es) h = All-cons (λ (x : Entry). x.number ≢ 1 + given) e es (λ same. omega (arith, h.1, same)) (above_is_free given es h.3)

more_given : (given : ℕ) (es : List Entry) → AreEntries given es → AreEntries (1 + given) es
more_given given [] h = tt
more_given given (e ∷ es) h = (h.0, omega (arith, h.1), h.2, more_given given es h.3)

with_number_are : (n : Numbering) → AreEntries n.given n.entries → (t : Forest) (o : Option ℕ)
    → AreEntries (with_number n t o).given (with_number n t o).entries
with_number_are n h t (Some k) = h
with_number_are n h t None = (omega arith, omega arith, above_is_free n.given n.entries h, more_given n.given n.entries h)

-- whatever trees get numbers, each number is of one entry
pub with_trees_are : (n : Numbering) → AreEntries n.given n.entries → (ts : List Forest) → AreEntries (with_trees n ts).given (with_trees n ts).entries
with_trees_are n h [] = h
with_trees_are n h (t ∷ ts) = with_trees_are (with_number n t (number_in n.entries t)) (with_number_are n h t (number_in n.entries t)) ts

module _ (equal : (f g : Forest) → (same_forest f g ≡ true) ↔ (f ≡ g)) where
  -- a number that is found is one of those given
  number_is_given : (given : ℕ) (es : List Entry) → AreEntries given es → (t : Forest) (n : ℕ) → number_in es t ≡ Some n → (1 ≤ n) × (n ≤ given)
  number_is_given given [] h t n e = cc
  number_is_given given (x ∷ es) h t n e = go (number_is_given given es h.3 t n) (same_forest t x.tree) e
    where
      go : (number_in es t ≡ Some n → (1 ≤ n) × (n ≤ given)) → (b : Bool) → cond b (Some x.number) (number_in es t) ≡ Some n → (1 ≤ n) × (n ≤ given)
      go later true q = let same = some_is x.number n q in (subst (λ k. 1 ≤ k) same h.0, subst (λ k. k ≤ given) same h.1)
      go later false q = later q

  free_is_not : (k : ℕ) (es : List Entry) → All (λ (x : Entry). x.number ≢ k) es → (t : Forest) (n : ℕ) → number_in es t ≡ Some n → n ≢ k
  free_is_not k [] h t n e = cc
  free_is_not k (x ∷ es) h t n e = go (free_is_not k es (All-tail (λ (x : Entry). x.number ≢ k) x es h) t n) (same_forest t x.tree) e
    where
      go : (number_in es t ≡ Some n → n ≢ k) → (b : Bool) → cond b (Some x.number) (number_in es t) ≡ Some n → n ≢ k
      go later true q = λ same. All-head (λ (x : Entry). x.number ≢ k) x es h (some_is x.number n q ∙ same)
      go later false q = later q

  number_apart : (given : ℕ) (es : List Entry) → AreEntries given es → (t u : Forest) (n : ℕ) → number_in es t ≡ Some n → number_in es u ≡ Some n → t ≡ u
  number_apart given [] h t u n p q = cc
  number_apart given (x ∷ es) h t u n p q = go (number_apart given es h.3 t u n) (same_forest t x.tree) (same_forest u x.tree) refl refl p q
    where
      go : (number_in es t ≡ Some n → number_in es u ≡ Some n → t ≡ u) → (a b : Bool) → same_forest t x.tree ≡ a → same_forest u x.tree ≡ b
          → cond a (Some x.number) (number_in es t) ≡ Some n → cond b (Some x.number) (number_in es u) ≡ Some n → t ≡ u
      go later true true e f p q = (equal t x.tree).0 e ∙ sym ((equal u x.tree).0 f)
      go later true false e f p q = absurd (free_is_not x.number es h.2 u n q (sym (some_is x.number n p)))
      go later false true e f p q = absurd (free_is_not x.number es h.2 t n p (sym (some_is x.number n q)))
      go later false false e f p q = later p q

  -- a tree with a number keeps it
  number_stays : (n : Numbering) (u t : Forest) (o : Option ℕ) (k : ℕ) → number_in n.entries u ≡ o → number_in n.entries t ≡ Some k
      → number_in (with_number n u o).entries t ≡ Some k
  number_stays n u t (Some j) k e h = h
  number_stays n u t None k e h = go (same_forest t u) refl
    where
      go : (b : Bool) → same_forest t u ≡ b → cond b (Some (1 + n.given)) (number_in n.entries t) ≡ Some k
      go true same =
          let none : None ≡ Some k = sym e ∙ ap (number_in n.entries) (sym ((equal t u).0 same)) ∙ h in
          cc
      go false others = h

  pub numbers_stay : (n : Numbering) (ts : List Forest) (t : Forest) (k : ℕ) → number_in n.entries t ≡ Some k → number_in (with_trees n ts).entries t ≡ Some k
  numbers_stay n [] t k h = h
  numbers_stay n (u ∷ ts) t k h =
      numbers_stay (with_number n u (number_in n.entries u)) ts t k (number_stays n u t (number_in n.entries u) k refl h)

  -- ---- trees that have a number

  abbrev IsNumberedIn : List Entry → Forest → Type 0
  IsNumberedIn es t = (k : ℕ) × (number_in es t ≡ Some k)

  has_number : (n : Numbering) (t : Forest) (o : Option ℕ) → number_in n.entries t ≡ o → IsNumberedIn (with_number n t o).entries t
  has_number n t (Some k) e = (k, e)
  has_number n t None e = (1 + n.given, ap (λ (b : Bool). cond b (Some (1 + n.given)) (number_in n.entries t)) ((equal t t).1 refl))

  pub have_numbers : (n : Numbering) (ts : List Forest) → All (IsNumberedIn (with_trees n ts).entries) ts
  have_numbers n [] = All-nil (IsNumberedIn n.entries)
  have_numbers n (t ∷ ts) =
      let next : Numbering = with_number n t (number_in n.entries t) in
      let one = has_number n t (number_in n.entries t) refl in
      All-cons (IsNumberedIn (with_trees next ts).entries) t ts (one.0, numbers_stay next ts t one.0 one.1) (have_numbers next ts)

  one_more : (x : Entry) (more : List Entry) (u : Forest) → IsNumberedIn more u → IsNumberedIn (x ∷ more) u
  one_more x more u h = go (same_forest u x.tree)
    where
      go : (b : Bool) → (k : ℕ) × (cond b (Some x.number) (number_in more u) ≡ Some k)
      go true = (x.number, refl)
      go false = h

  entries_have : (xs : List Entry) → All (IsNumberedIn xs) (map tree_of xs)
  entries_have [] = All-nil (IsNumberedIn [])
  entries_have (x ∷ xs) =
      All-cons (IsNumberedIn (x ∷ xs)) x.tree (map tree_of xs)
      (x.number, ap (λ (b : Bool). cond b (Some x.number) (number_in xs x.tree)) ((equal x.tree x.tree).1 refl))
      (all_map (IsNumberedIn xs) (IsNumberedIn (x ∷ xs)) (one_more x xs) (map tree_of xs) (entries_have xs))

  pub entry_has : (es : List Entry) (t : Forest) → Contains (map tree_of es) t → IsNumberedIn es t
  entry_has es t c = All-contains (IsNumberedIn es) (map tree_of es) t (entries_have es) c

  pub numbered_is : (es : List Entry) (t : Forest) (k : ℕ) → number_in es t ≡ Some k → number_of es t ≡ k
  numbered_is es t k e = ap (λ (o : Option ℕ). unwrap_or o 0) e

  -- a tree that has a number is one of those of the entries
  contained_in : (trees : List Forest) (t : Forest) (k : ℕ) (xs : List Entry) → All (Contains trees) (map tree_of xs) → number_in xs t ≡ Some k → Contains trees t
  contained_in trees t k [] h q = cc
  contained_in trees t k (x ∷ xs) h q =
      here (contained_in trees t k xs (All-tail (Contains trees) x.tree (map tree_of xs) h)) (same_forest t x.tree) refl q
    where
      here : (number_in xs t ≡ Some k → Contains trees t) → (b : Bool) → same_forest t x.tree ≡ b
          → cond b (Some x.number) (number_in xs t) ≡ Some k → Contains trees t
      here later true same q = subst (Contains trees) (sym ((equal t x.tree).0 same)) (All-head (Contains trees) x.tree (map tree_of xs) h)
      here later false same q = later q

  pub contained : (es : List Entry) (t : Forest) (k : ℕ) → number_in es t ≡ Some k → Contains (map tree_of es) t
  contained es t k e = contained_in (map tree_of es) t k es (All-contains_itself (map tree_of es)) e

  -- ---- the laws

  all_of : {X : Type 0} → (P : X → Type 0) (xs : List X) → ((x : X) → Contains xs x → P x) → All P xs
  all_of P xs f = all_map (Contains xs) P f xs (All-contains_itself xs)

  pub tells_apart : (n : Numbering) → AreEntries n.given n.entries → TellsApart (number_of n.entries) (map tree_of n.entries)
  tells_apart n h = record {
    positive = all_of (λ t. 1 ≤ number_of n.entries t) (map tree_of n.entries)
        (λ t c.
        let one = entry_has n.entries t c in
        subst (λ k. 1 ≤ k) (sym (numbered_is n.entries t one.0 one.1)) (number_is_given n.given n.entries h t one.0 one.1).0);
    apart = all_of (λ t. All (λ u. number_of n.entries t ≡ number_of n.entries u → t ≡ u) (map tree_of n.entries)) (map tree_of n.entries)
        (λ t c. all_of (λ u. number_of n.entries t ≡ number_of n.entries u → t ≡ u) (map tree_of n.entries)
        (λ u d same.
        let one = entry_has n.entries t c in
        let two = entry_has n.entries u d in
        let k : one.0 ≡ two.0 = sym (numbered_is n.entries t one.0 one.1) ∙ same ∙ numbered_is n.entries u two.0 two.1 in
        number_apart n.given n.entries h t u two.0 (one.1 ∙ ap Some k) two.1));
  }

  pub all_known : (n : Numbering) (ts : List Forest) → All (Contains (map tree_of (with_trees n ts).entries)) ts
  all_known n ts =
      all_map (IsNumberedIn (with_trees n ts).entries) (Contains (map tree_of (with_trees n ts).entries))
      (λ t one. contained (with_trees n ts).entries t one.0 one.1) ts (have_numbers n ts)

  is_known : (es : List Entry) (t : Forest) → list_any (same_forest t) (map tree_of es) ≡ true → IsNumberedIn es t
  is_known [] t e = cc
  is_known (x ∷ es) t e = go (is_known es t) (same_forest t x.tree) e
    where
      go : (list_any (same_forest t) (map tree_of es) ≡ true → (k : ℕ) × (number_in es t ≡ Some k)) → (b : Bool) → (b || list_any (same_forest t) (map tree_of es)) ≡ true
          → (k : ℕ) × (cond b (Some x.number) (number_in es t) ≡ Some k)
      go later true q = (x.number, refl)
      go later false q = later q

  is_new : (es : List Entry) (t : Forest) → list_any (same_forest t) (map tree_of es) ≡ false → number_in es t ≡ None
  is_new [] t e = refl
  is_new (x ∷ es) t e = go (is_new es t) (same_forest t x.tree) e
    where
      go : (list_any (same_forest t) (map tree_of es) ≡ false → number_in es t ≡ None) → (b : Bool) → (b || list_any (same_forest t) (map tree_of es)) ≡ false
          → cond b (Some x.number) (number_in es t) ≡ None
      go later true q = cc
      go later false q = later q

  -- as many numbers are given as are needed
  pub given_are : (n : Numbering) (ts : List Forest) → (with_trees n ts).given ≡ n.given + needed (map tree_of n.entries) ts
  given_are n [] = omega arith
  given_are n (t ∷ ts) = go (list_any (same_forest t) (map tree_of n.entries)) refl (given_are n ts) (given_are (with_number n t None) ts)
    where
      go : (b : Bool) → list_any (same_forest t) (map tree_of n.entries) ≡ b
          → (with_trees n ts).given ≡ n.given + needed (map tree_of n.entries) ts
          → (with_trees (with_number n t None) ts).given ≡ (1 + n.given) + needed (t ∷ map tree_of n.entries) ts
          → (with_trees (with_number n t (number_in n.entries t)) ts).given
          ≡ n.given + cond b (needed (map tree_of n.entries) ts) (1 + needed (t ∷ map tree_of n.entries) ts)
      go true e known fresh = ap (λ (o : Option ℕ). (with_trees (with_number n t o) ts).given) (is_known n.entries t e).1 ∙ known
      go false e known fresh =
          ap (λ (o : Option ℕ). (with_trees (with_number n t o) ts).given) (is_new n.entries t e) ∙ fresh ∙ omega arith
