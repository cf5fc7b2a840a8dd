-- No list of moves is listed twice: the moves that are valid in a state differ.
use Rattle.std.proofs.Common.{◌≡◌, inl, inr, refl, sym, subst, ◌∙◌, ℕ, zero, suc, Bool, true, false, List, [], ◌∷◌, ◌++◌, map, Option, Some, None}
use Rattle.std.specs.List.{flat_map}
use Rattle.mbe_rules.specs.Items.{Item, Items, Separator, concat_of, count_of, dollar, done, group_of, ignore_of, index_of, item, len_of, lifetime, may_skip, puncts, repetition, variable, variables, word}
use Rattle.mbe_rules.specs.declared.parser.MetaVarKind.{MetaVarKind}
use Rattle.mbe_rules.specs.declared.parser.MetaVarKind.TheVariants.{Vis}
use Rattle.mbe_rules.specs.declared.parser.RepeatKind.{RepeatKind}
use Rattle.mbe_matcher.specs.Fragments.{taken}
use Rattle.mbe_matcher.specs.Grammar.{Grammar}
use Rattle.mbe_matcher.specs.Paths.{IsAmong, paths_from, when}
use Rattle.mbe_matcher.specs.Readings as r
use Rattle.mbe_matcher.specs.Units as u
use Rattle.mbe_matcher.proofs.PathListLemmas.{among-append}
use Rattle.mbe_explain.proofs.ListLemmas.{of-map, of-when}

-- no element stands twice in a list
abbrev pub AllDiffer : {A : Type 0} → List A → Type 0
AllDiffer [] = Unit {0}
AllDiffer (x ∷ xs) = (IsAmong x xs → ⊥) × AllDiffer xs

differ-append : {A : Type 0} (xs ys : List A) → AllDiffer xs → AllDiffer ys → ((x : A) → IsAmong x xs → IsAmong x ys → ⊥) → AllDiffer (xs ++ ys)
differ-append [] ys h k f = k
differ-append (x ∷ xs) ys h k f = (
  (λ a. elim (among-append x xs ys a) [ inl b ↦ h.0 b | inr b ↦ f x (inl refl) b ]),
  differ-append xs ys h.1 k (λ y a b. f y (inr a) b),
)

differ-when : {A : Type 0} (b : Bool) (x : A) → AllDiffer (when b x)
differ-when true x = ((λ a. a), tt)
differ-when false x = tt

-- ---- lists of moves

one-head : {M : Type 0} (m n : M) (xs ys : List M) → (m ∷ xs) ≡ (n ∷ ys) → m ≡ n
one-head m n xs ys e = cc

one-tail : {M : Type 0} (m n : M) (xs ys : List M) → (m ∷ xs) ≡ (n ∷ ys) → xs ≡ ys
one-tail m n xs ys e = cc

some-moves : {M : Type 0} (m : M) (xs : List M) → (m ∷ xs) ≡ [] → ⊥
some-moves m xs e = absurd (cc e)

differ-put : {M : Type 0} (m : M) (xs : List (List M)) → AllDiffer xs → AllDiffer (map (λ ms. m ∷ ms) xs)
differ-put m [] h = tt
differ-put m (x ∷ xs) h = (
  (λ a.
      let o = of-map (λ ms. m ∷ ms) (m ∷ x) xs a in
      h.0 (subst (λ y. IsAmong y xs) (one-tail m m o.0 x o.2) o.1)),
  differ-put m xs h.1,
)

module _ {M S : Type 0} (below : S → List (List M)) (each : (s : S) → AllDiffer (below s)) where
  abbrev led : M × S → List (List M)
  led c = map (λ ms. c.0 ∷ ms) (below c.1)

  -- a list of moves begins with the move of a choice
  begun : (cs : List (M × S)) (ms : List M) → IsAmong ms (flat_map led cs) → (m : M) × (ns : List M) × IsAmong m (map (λ (c : M × S). c.0) cs) × ((m ∷ ns) ≡ ms)
  begun [] ms a = absurd a
  begun (c ∷ cs) ms a =
      elim (among-append ms (led c) (flat_map led cs) a) [
        | inl b ↦ let o = of-map (λ ns. c.0 ∷ ns) ms (below c.1) b in (c.0, o.0, inl refl, o.2)
        | inr b ↦ let o = begun cs ms b in (o.0, o.1, inr o.2, o.3)
      ]

  differ-led : (cs : List (M × S)) → AllDiffer (map (λ (c : M × S). c.0) cs) → AllDiffer (flat_map led cs)
  differ-led [] h = tt
  differ-led (c ∷ cs) h =
      differ-append (led c) (flat_map led cs) (differ-put c.0 (below c.1) (each c.1)) (differ-led cs h.1) (λ ms a b.
      let o = of-map (λ ns. c.0 ∷ ns) ms (below c.1) a in
      let i = begun cs ms b in
      h.0 (subst (λ m. IsAmong m (map (λ (d : M × S). d.0) cs)) (one-head i.0 c.0 i.1 o.0 (i.3 ∙ sym o.2)) i.2))

module _ {M S : Type 0} (step : S → List (M × S)) (ends : S → Bool) (each : (s : S) → AllDiffer (map (λ (c : M × S). c.0) (step s))) where
  -- where the moves of each state differ, the paths do
  pub paths-differ : (n : ℕ) (s : S) → AllDiffer (paths_from step ends n s)
  paths-differ zero s = differ-when (ends s) []
  paths-differ (suc n) s =
      differ-append (when (ends s) []) (flat_map (λ (c : M × S). map (λ ms. c.0 ∷ ms) (paths_from step ends n c.1)) (step s)) (differ-when (ends s) [])
      (differ-led (paths_from step ends n) (λ t. paths-differ n t) (step s) (each s)) (λ ms a b.
      let o = begun (paths_from step ends n) (λ t. paths-differ n t) (step s) ms b in
      some-moves o.0 o.1 (o.3 ∙ sym (of-when (ends s) ms [] a).1))

-- ---- the moves of a matcher

abbrev moves_in : List r.Choice → List r.Move
moves_in cs = map (λ (c : r.Choice). c.0) cs

one-when : (b : Bool) (c : r.Choice) → AllDiffer (moves_in (when b c))
one-when true c = ((λ a. a), tt)
one-when false c = tt

of-fragment : (n : List ℕ) (k : MetaVarKind) (o : Option ℕ) (rest : Items) (fs : List r.Frame) (p : u.Place) → AllDiffer (moves_in (r.fragment_moves n k o rest fs p))
of-fragment n k None rest fs p = tt
of-fragment n Vis (Some zero) rest fs p = ((λ a. a), tt)
of-fragment n k (Some (suc j)) rest fs p = ((λ a. a), tt)
of-fragment n _ (Some zero) rest fs p = tt

of-item : (gr : Grammar) (x : Item) (rest : Items) (fs : List r.Frame) (p : u.Place) → AllDiffer (moves_in (r.next gr (r.at (item x rest) fs p)))
of-item gr (dollar (variable n (Some k)) s) rest fs p = of-fragment n k (taken gr k (r.trees_here p)) rest fs p
of-item gr (dollar (variable n None) s) rest fs p = tt
of-item gr (dollar (count_of n d) s) rest fs p = tt
of-item gr (dollar (index_of d) s) rest fs p = tt
of-item gr (dollar (len_of d) s) rest fs p = tt
of-item gr (dollar (ignore_of n) s) rest fs p = tt
of-item gr (dollar (concat_of ps) s) rest fs p = tt
of-item gr (word l) rest fs p = one-when _ _
of-item gr (puncts ps) rest fs p = one-when _ _
of-item gr (lifetime q j) rest fs p = one-when _ _

enter-or-skip : (b : Bool) (s t : r.State) (ns : List (List ℕ)) → AllDiffer (moves_in ((r.enter, s) ∷ when b (r.skip ns, t)))
enter-or-skip true s t ns = ((λ a. elim a [ inl e ↦ absurd (cc e) | inr k ↦ k ]), ((λ a. a), tt))
enter-or-skip false s t ns = ((λ a. a), tt)

or-leave : (b : Bool) (c : r.Choice) (s : r.State) → (r.leave ≡ c.0 → ⊥) → AllDiffer (moves_in (when b c ++ ((r.leave, s) ∷ [])))
or-leave true c s n = ((λ a. elim a [ inl e ↦ n e | inr k ↦ k ]), ((λ a. a), tt))
or-leave false c s n = ((λ a. a), tt)

of-round : (body : Items) (sep : Option Separator) (op : RepeatKind) (after : Items) (fs : List r.Frame) (p : u.Place) (s : r.State) →
    AllDiffer (moves_in (r.round_moves body sep op after fs p ++ ((r.leave, s) ∷ [])))
of-round body None op after fs p s = or-leave _ _ _ (λ e. absurd (cc e))
of-round body (Some sep) op after fs p s = or-leave _ _ _ (λ e. absurd (cc e))

-- the moves that are valid in a state differ
pub next-differ : (gr : Grammar) (s : r.State) → AllDiffer (moves_in (r.next gr s))
next-differ gr (r.at (item x rest) fs p) = of-item gr x rest fs p
next-differ gr (r.at (group_of d inner rest) fs p) = one-when _ _
next-differ gr (r.at (repetition body sep op rest) fs p) =
    enter-or-skip (may_skip op) (r.at body (r.in_round body sep op rest ∷ fs) p) (r.at rest fs p) (variables body)
next-differ gr (r.at done [] p) = tt
next-differ gr (r.at done (r.in_group after ∷ fs) p) = one-when _ _
next-differ gr (r.at done (r.in_round body sep op after ∷ fs) p) = of-round body sep op after fs p (r.at after fs p)
next-differ gr (r.at done (r.parted body sep op after ∷ fs) p) = one-when _ _
