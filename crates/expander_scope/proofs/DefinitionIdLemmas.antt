-- One more definition gets its id.
use Rattle.std.proofs.Common.{◌≡◌, ◌↔◌, ℕ, ◌+◌, ◌≤◌, Bool, true, false, cond, List, [], ◌∷◌, ◌++◌, Option, Some, None, refl, ap, sym, ◌∙◌, arith}
use Rattle.std.specs.Prelude.{◌||◌, is_some}
use Rattle.std.specs.List.{list_any}
use Rattle.tt_data.specs.Forest.{Forest}
use Rattle.expander_model.specs.EqualTrees.{same_forest}
use Rattle.expander_model.specs.cfg_options.Conditions.{or_else}
use Rattle.expander_scope.specs.DefinitionIds.{AreNumbered, AreNumbers, HaveNumbers, by_either}
use Rattle.expander_scope.specs.NewNumbers.{needed}

or_assoc : (a b c : Bool) → ((a || b) || c) ≡ (a || (b || c))
or_assoc true b c = refl
or_assoc false b c = refl

or_false : (a : Bool) → (a || false) ≡ a
or_false true = refl
or_false false = refl

or_true : (a : Bool) → (a || true) ≡ true
or_true true = refl
or_true false = refl

pub any_append : (p : Forest → Bool) (xs ys : List Forest) → list_any p (xs ++ ys) ≡ (list_any p xs || list_any p ys)
any_append p [] ys = refl
any_append p (x ∷ xs) ys = ap (λ b. p x || b) (any_append p xs ys) ∙ sym (or_assoc (p x) (list_any p xs) (list_any p ys))

some_is : (m n : ℕ) → Some m ≡ Some n → m ≡ n
some_is m n e = cc

none_not : (n : ℕ) → None ≡ Some n → ⊥
none_not n e = cc

module _ (equal : (f g : Forest) → (same_forest f g ≡ true) ↔ (f ≡ g)) where
  -- ---- how many are needed

  among : (known : List Forest) (t x : Forest) → list_any (same_forest x) known ≡ true → (rest : Bool)
      → (list_any (same_forest t) known || (same_forest t x || rest)) ≡ (list_any (same_forest t) known || rest)
  among known t x e rest = go (same_forest t x) refl
    where
      go : (b : Bool) → same_forest t x ≡ b → (list_any (same_forest t) known || (b || rest)) ≡ (list_any (same_forest t) known || rest)
      go false q = refl
      go true q =
          let there : list_any (same_forest t) known ≡ true = ap (λ (u : Forest). list_any (same_forest u) known) ((equal t x).0 q) ∙ e in
          or_true (list_any (same_forest t) known) ∙ sym (ap (λ b. b || rest) there)

  swapped : (a b c : Bool) → ((a || b) || c) ≡ (b || (a || c))
  swapped true true c = refl
  swapped true false c = refl
  swapped false true c = refl
  swapped false false c = refl

  pub needed_more : (known ts : List Forest) (t : Forest)
      → needed known (ts ++ t ∷ []) ≡ needed known ts + cond (list_any (same_forest t) known || list_any (same_forest t) ts) 0 1
  needed_more known [] t = go (list_any (same_forest t) known)
    where
      go : (b : Bool) → cond b 0 (1 + 0) ≡ 0 + cond (b || false) 0 1
      go true = refl
      go false = refl
  needed_more known (x ∷ ts) t = go (list_any (same_forest x) known) refl (needed_more known ts t) (needed_more (x ∷ known) ts t)
    where
      go : (b : Bool) → list_any (same_forest x) known ≡ b
          → needed known (ts ++ t ∷ []) ≡ needed known ts + cond (list_any (same_forest t) known || list_any (same_forest t) ts) 0 1
          → needed (x ∷ known) (ts ++ t ∷ []) ≡ needed (x ∷ known) ts + cond ((same_forest t x || list_any (same_forest t) known) || list_any (same_forest t) ts) 0 1
          → cond b (needed known (ts ++ t ∷ [])) (1 + needed (x ∷ known) (ts ++ t ∷ []))
          ≡ cond b (needed known ts) (1 + needed (x ∷ known) ts) + cond (list_any (same_forest t) known || (same_forest t x || list_any (same_forest t) ts)) 0 1
      go true e one two = one ∙ ap (λ (c : Bool). needed known ts + cond c 0 1) (sym (among known t x e (list_any (same_forest t) ts)))
      go false e one two =
          ap (λ (n : ℕ). 1 + n) two
          ∙ ap (λ (c : Bool). 1 + (needed (x ∷ known) ts + cond c 0 1)) (swapped (same_forest t x) (list_any (same_forest t) known) (list_any (same_forest t) ts))
          ∙ omega arith

  -- trees need no fewer numbers than the first of them
  pub needed_front : (known ts more : List Forest) → needed known ts ≤ needed known (ts ++ more)
  needed_front known [] more = omega arith
  needed_front known (t ∷ ts) more = go (list_any (same_forest t) known) (needed_front known ts more) (needed_front (t ∷ known) ts more)
    where
      go : (b : Bool) → needed known ts ≤ needed known (ts ++ more) → needed (t ∷ known) ts ≤ needed (t ∷ known) (ts ++ more)
          → cond b (needed known ts) (1 + needed (t ∷ known) ts) ≤ cond b (needed known (ts ++ more)) (1 + needed (t ∷ known) (ts ++ more))
      go true one two = one
      go false one two = omega (arith, two)

  -- ---- one more tree

  module _ (old_given : ℕ) (old : Forest → Option ℕ) (known trees : List Forest) (given : ℕ) (now : Forest → Option ℕ)
      (had : HaveNumbers old known) (are : AreNumbered old_given old known trees given now) (t : Forest) where
    any_more : (u : Forest) → list_any (same_forest u) (trees ++ t ∷ []) ≡ (list_any (same_forest u) trees || same_forest u t)
    any_more u = any_append (same_forest u) trees (t ∷ []) ∙ ap (λ b. list_any (same_forest u) trees || b) (or_false (same_forest u t))

    -- whether it is among the trees, where it is met already
    met_again : (u : Forest) → list_any (same_forest t) trees ≡ true → list_any (same_forest u) trees ≡ list_any (same_forest u) (trees ++ t ∷ [])
    met_again u met = go (same_forest u t) refl ∙ sym (any_more u)
      where
        go : (b : Bool) → same_forest u t ≡ b → list_any (same_forest u) trees ≡ (list_any (same_forest u) trees || b)
        go true e = ap (λ (v : Forest). list_any (same_forest v) trees) ((equal u t).0 e) ∙ met ∙ sym (or_true (list_any (same_forest u) trees))
        go false e = sym (or_false (list_any (same_forest u) trees))

    needs : (a b : Bool) → list_any (same_forest t) known ≡ a → list_any (same_forest t) trees ≡ b → needed known (trees ++ t ∷ []) ≡ needed known trees + cond (a || b) 0 1
    needs a b e f = needed_more known trees t ∙ ap (λ (c : Bool). needed known trees + cond (c || list_any (same_forest t) trees) 0 1) e ∙ ap (λ (c : Bool). needed known trees + cond (a || c) 0 1) f

    needs_none : (a b : Bool) → list_any (same_forest t) known ≡ a → list_any (same_forest t) trees ≡ b → (a || b) ≡ true → given ≡ old_given + needed known (trees ++ t ∷ [])
    needs_none a b e f some =
        are.given_is ∙ ap (λ (k : ℕ). old_given + k) (sym (needs a b e f ∙ ap (λ (c : Bool). needed known trees + cond c 0 1) some ∙ omega arith))

    -- it has its number already
    pub same_number : (n : ℕ) → now t ≡ Some n → AreNumbered old_given old known (trees ++ t ∷ []) given now
    same_number n is =
        let met : list_any (same_forest t) trees ≡ true = sym (are.have t) ∙ ap is_some is in
        record {
          numbers = are.numbers;
          stay = are.stay;
          have = λ u. are.have u ∙ met_again u met;
          given_is = needs_none (list_any (same_forest t) known) true refl met (or_true (list_any (same_forest t) known));
        }

    module _ (next : Forest → Option ℕ) (n : ℕ) (updates : (u : Forest) → next u ≡ cond (same_forest t u) (Some n) (now u)) (none : now t ≡ None) where
      have_more : HaveNumbers next (trees ++ t ∷ [])
      have_more u = ap is_some (updates u) ∙ go (same_forest t u) refl ∙ sym (any_more u)
        where
          other : same_forest t u ≡ false → (b : Bool) → same_forest u t ≡ b → is_some (now u) ≡ (list_any (same_forest u) trees || b)
          other e true f = let both : false ≡ true = sym e ∙ (equal t u).1 (sym ((equal u t).0 f)) in cc
          other e false f = are.have u ∙ sym (or_false (list_any (same_forest u) trees))

          go : (b : Bool) → same_forest t u ≡ b → is_some (cond b (Some n) (now u)) ≡ (list_any (same_forest u) trees || same_forest u t)
          go true e = sym (ap (λ c. list_any (same_forest u) trees || c) ((equal u t).1 (sym ((equal t u).0 e))) ∙ or_true (list_any (same_forest u) trees))
          go false e = other e (same_forest u t) refl

      -- it had its number before
      module _ (is : old t ≡ Some n) where
        either_same : (u : Forest) → by_either next old u ≡ by_either now old u
        either_same u = ap (λ o. or_else o (old u)) (updates u) ∙ go (same_forest t u) refl
          where
            go : (b : Bool) → same_forest t u ≡ b → or_else (cond b (Some n) (now u)) (old u) ≡ or_else (now u) (old u)
            go false e = refl
            go true e =
                let there : t ≡ u = (equal t u).0 e in
                sym (ap (λ (v : Forest). or_else (now v) (old v)) (sym there) ∙ ap (λ o. or_else o (old t)) none ∙ is)

        pub old_number : AreNumbered old_given old known (trees ++ t ∷ []) given next
        old_number = record {
          numbers = record {
            within = λ u m e. are.numbers.within u m (sym (either_same u) ∙ e);
            apart = λ u v m e f. are.numbers.apart u v m (sym (either_same u) ∙ e) (sym (either_same v) ∙ f);
          };
          stay = λ u m k e f. stays u m k f (same_forest t u) refl (sym (updates u) ∙ e);
          have = have_more;
          given_is = needs_none true (list_any (same_forest t) trees) (sym (had t) ∙ ap is_some is) refl refl;
        }
          where
            stays : (u : Forest) (m k : ℕ) → old u ≡ Some k → (b : Bool) → same_forest t u ≡ b → cond b (Some n) (now u) ≡ Some m → m ≡ k
            stays u m k f false e q = are.stay u m k q f
            stays u m k f true e q = sym (some_is n m q) ∙ some_is n k (sym is ∙ ap old ((equal t u).0 e) ∙ f)

      -- it needs a new one
      module _ (is : old t ≡ None) (fresh : n ≡ 1 + given) where
        either_new : (u : Forest) → by_either next old u ≡ cond (same_forest t u) (Some n) (by_either now old u)
        either_new u = ap (λ o. or_else o (old u)) (updates u) ∙ go (same_forest t u)
          where
            go : (b : Bool) → or_else (cond b (Some n) (now u)) (old u) ≡ cond b (Some n) (or_else (now u) (old u))
            go true = refl
            go false = refl

        within_new : (u : Forest) (m : ℕ) (b : Bool) → cond b (Some n) (by_either now old u) ≡ Some m → (1 ≤ m) × (m ≤ 1 + given)
        within_new u m true q = let same = some_is n m q in (omega (arith, same, fresh), omega (arith, same, fresh))
        within_new u m false q = let w = are.numbers.within u m q in (w.0, omega (arith, w.1))

        apart_new : (u v : Forest) (m : ℕ) (a b : Bool) → same_forest t u ≡ a → same_forest t v ≡ b
            → cond a (Some n) (by_either now old u) ≡ Some m → cond b (Some n) (by_either now old v) ≡ Some m → u ≡ v
        apart_new u v m true true e f p q = sym ((equal t u).0 e) ∙ (equal t v).0 f
        apart_new u v m true false e f p q = absurd (too_large m (some_is n m p) (are.numbers.within v m q).1)
          where
            too_large : (m : ℕ) → n ≡ m → m ≤ given → ⊥
            too_large m same small = omega (arith, same, small, fresh)
        apart_new u v m false true e f p q = absurd (too_large m (some_is n m q) (are.numbers.within u m p).1)
          where
            too_large : (m : ℕ) → n ≡ m → m ≤ given → ⊥
            too_large m same small = omega (arith, same, small, fresh)
        apart_new u v m false false e f p q = are.numbers.apart u v m p q

        pub new_number : AreNumbered old_given old known (trees ++ t ∷ []) (1 + given) next
        new_number = record {
          numbers = record {
            within = λ u m e. within_new u m (same_forest t u) (sym (either_new u) ∙ e);
            apart = λ u v m e f. apart_new u v m (same_forest t u) (same_forest t v) refl refl (sym (either_new u) ∙ e) (sym (either_new v) ∙ f);
          };
          stay = λ u m k e f. stays u m k f (same_forest t u) refl (sym (updates u) ∙ e);
          have = have_more;
          given_is = more;
        }
          where
            stays : (u : Forest) (m k : ℕ) → old u ≡ Some k → (b : Bool) → same_forest t u ≡ b → cond b (Some n) (now u) ≡ Some m → m ≡ k
            stays u m k f false e q = are.stay u m k q f
            stays u m k f true e q = absurd (none_not k (sym is ∙ ap old ((equal t u).0 e) ∙ f))

            more : 1 + given ≡ old_given + needed known (trees ++ t ∷ [])
            more =
                let one : needed known (trees ++ t ∷ []) ≡ needed known trees + 1 = needs false false (sym (had t) ∙ ap is_some is) (sym (are.have t) ∙ ap is_some none) in
                omega (arith, are.given_is, one)

  -- the numbers of these trees alone
  pub numbers_now : (old_given : ℕ) (old : Forest → Option ℕ) (known trees : List Forest) (given : ℕ) (now : Forest → Option ℕ) → AreNumbered old_given old known trees given now → AreNumbers given now
  numbers_now old_given old known trees given now are = record {
    within = λ t n e. are.numbers.within t n (ap (λ o. or_else o (old t)) e);
    apart = λ t u n e f. are.numbers.apart t u n (ap (λ o. or_else o (old t)) e) (ap (λ o. or_else o (old u)) f);
  }
