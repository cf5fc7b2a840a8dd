-- Two partial paths that clash are what the test for a clash finds.
use Rattle.std.proofs.Common.{◌≡◌, ◌⊎◌, inl, inr, refl, sym, ap, subst, ◌∙◌, ℕ, zero, suc, ◌≤◌, ◌<◌, ◌==◌, Bool, true, false, not, List, [], ◌∷◌, ◌++◌, map, length, arith, Some, None}
use Rattle.std.specs.List.{flat_map, list_any}
use Rattle.std.proofs.lemmas.Bool.{eq-eqb, eqb-true}
use Rattle.mbe_transcriber.specs.mbe_matcher.Paths.{IsAmong, when, IsPath, paths_from, takings_from, Takings, takings_at, clash, has_clash, only}
use Rattle.mbe_rules.specs.Text.{is_nil}
use Rattle.mbe_transcriber.proofs.ClashLemmas.{or-left, or-right, clash-from, clash-to}
use Rattle.mbe_transcriber.proofs.PathListLemmas.{among-append, listed, is_path, path-length}

-- ---- elements of lists

among-left : {A : Type 0} (x : A) (xs ys : List A) → IsAmong x xs → IsAmong x (xs ++ ys)
among-left x [] ys h = absurd h
among-left x (y ∷ xs) ys (inl e) = inl e
among-left x (y ∷ xs) ys (inr h) = inr (among-left x xs ys h)

among-right : {A : Type 0} (x : A) (xs ys : List A) → IsAmong x ys → IsAmong x (xs ++ ys)
among-right x [] ys h = h
among-right x (y ∷ xs) ys h = inr (among-right x xs ys h)

among-map : {A B : Type 0} (f : A → B) (x : A) (xs : List A) → IsAmong x xs → IsAmong (f x) (map f xs)
among-map f x [] h = absurd h
among-map f x (y ∷ xs) (inl e) = inl (ap f e)
among-map f x (y ∷ xs) (inr h) = inr (among-map f x xs h)

among-of-map : {A B : Type 0} (f : A → B) (y : B) (xs : List A) → IsAmong y (map f xs) → (x : A) × IsAmong x xs × (f x ≡ y)
among-of-map f y [] h = absurd h
among-of-map f y (x ∷ xs) (inl e) = (x, inl refl, e)
among-of-map f y (x ∷ xs) (inr h) = let r = among-of-map f y xs h in (r.0, inr r.1, r.2)

among-flat : {A B : Type 0} (f : A → List B) (x : A) (xs : List A) (y : B) → IsAmong x xs → IsAmong y (f x) → IsAmong y (flat_map f xs)
among-flat f x [] y k h = absurd k
among-flat f x (z ∷ xs) y (inl e) h = among-left y (f z) (flat_map f xs) (subst (λ w. IsAmong y (f w)) (sym e) h)
among-flat f x (z ∷ xs) y (inr k) h = among-right y (f z) (flat_map f xs) (among-flat f x xs y k h)

among-of-flat : {A B : Type 0} (f : A → List B) (y : B) (xs : List A) → IsAmong y (flat_map f xs) → (x : A) × IsAmong x xs × IsAmong y (f x)
among-of-flat f y [] h = absurd h
among-of-flat f y (x ∷ xs) h =
    elim (among-append y (f x) (flat_map f xs) h) [
      | inl k ↦ (x, inl refl, k)
      | inr k ↦ let r = among-of-flat f y xs k in (r.0, inr r.1, r.2)
    ]

of-when : {A : Type 0} (b : Bool) (x y : A) → IsAmong x (when b y) → (b ≡ true) × (y ≡ x)
of-when true x y (inl e) = (refl, e)
of-when true x y (inr h) = absurd h
of-when false x y h = absurd h

pub map-append : {B C : Type 0} (g : B → C) (xs ys : List B) → map g (xs ++ ys) ≡ map g xs ++ map g ys
map-append g [] ys = refl
map-append g (x ∷ xs) ys = ap (λ l. g x ∷ l) (map-append g xs ys)

when-in : {A : Type 0} (b : Bool) (x : A) → b ≡ true → IsAmong x (when b x)
when-in true x e = inl refl
when-in false x e = absurd (cc e)

-- ---- lists whose elements have different keys

abbrev pub AreApart : {A K : Type 0} → (A → K) → List A → Type 0
AreApart key [] = Unit {0}
AreApart key (x ∷ xs) = ((y : _) → IsAmong y xs → key y ≡ key x → ⊥) × AreApart key xs

apart-append : {A K : Type 0} (key : A → K) (xs ys : List A) → AreApart key xs → AreApart key ys
    → ((x y : A) → IsAmong x xs → IsAmong y ys → key y ≡ key x → ⊥) → AreApart key (xs ++ ys)
apart-append key [] ys a b others = b
apart-append key (x ∷ xs) ys a b others = (
  λ y h e. elim (among-append y xs ys h) [ inl k ↦ a.0 y k e | inr k ↦ others x y (inl refl) k e ],
  apart-append key xs ys a.1 b (λ z y h. others z y (inr h)),
)

apart-map : {A B K L : Type 0} (key : A → K) (other : B → L) (f : A → B) → ((x y : A) → other (f x) ≡ other (f y) → key x ≡ key y)
    → (xs : List A) → AreApart key xs → AreApart other (map f xs)
apart-map key other f back [] a = tt
apart-map key other f back (x ∷ xs) a = (
  λ y h e. let r = among-of-map f y xs h in a.0 r.0 r.1 (back r.0 x (ap other r.2 ∙ e)),
  apart-map key other f back xs a.1,
)

pub apart-when : {A K : Type 0} (key : A → K) (b : Bool) (x : A) → AreApart key (when b x)
apart-when key true x = (λ y h e. h, tt)
apart-when key false x = tt

-- each of some lists has keys that begin with its own
apart-flat : {A B K : Type 0} (first : A → K) (key : B → List K) (f : A → List B) (xs : List A) → AreApart first xs
    → ((x : A) → AreApart key (f x)) → ((x : A) (y : B) → IsAmong y (f x) → (more : List K) × (key y ≡ first x ∷ more)) → AreApart key (flat_map f xs)
apart-flat first key f [] a each begins = tt
apart-flat first key f (x ∷ xs) a each begins =
    apart-append key (f x) (flat_map f xs) (each x) (apart-flat first key f xs a.1 each begins)
    (λ y z h k e.
    let r = among-of-flat f z xs k in
    let m = begins x y h in
    let n = begins r.0 z r.2 in
    let same : first r.0 ∷ n.0 ≡ first x ∷ m.0 = sym n.1 ∙ e ∙ m.1 in
    a.0 r.0 r.1 (cc))

-- ---- partial paths

module _ {M S : Type 0} (step : S → List (M × S)) (takes is_fragment : M → Bool) (left : S → ℕ) where
  -- a consuming move after some moves
  pub record Consumes (s : S) (moves : List M) (move : M) : Type 0 where
    pub before : S
    pub after : S
    pub path : IsPath step s moves before
    pub valid : IsAmong (move, after) (step before)
    pub is_taken : takes move ≡ true

  -- the partial paths of at most n moves, each with what its last move consumes
  abbrev pub partials : ℕ → S → List (List M × (ℕ × Bool))
  partials zero s = []
  partials (suc n) s =
      flat_map (λ c. when (takes c.0) (c.0 ∷ [], (left s, is_fragment c.0)) ++ map (λ (p : List M × (ℕ × Bool)). (c.0 ∷ p.0, p.1)) (partials n c.1)) (step s)

  abbrev of_choice : ℕ → S → M × S → List (List M × (ℕ × Bool))
  of_choice n s c = when (takes c.0) (c.0 ∷ [], (left s, is_fragment c.0)) ++ map (λ (p : List M × (ℕ × Bool)). (c.0 ∷ p.0, p.1)) (partials n c.1)

  -- a partial path by its moves and what is consumed
  pub record IsPartial (s : S) (p : List M × (ℕ × Bool)) : Type 0 where
    pub moves : List M
    pub move : M
    pub consumes : Consumes s moves move
    pub all : p.0 ≡ moves ++ move ∷ []
    pub position : p.1.0 ≡ left consumes.before
    pub fragment : p.1.1 ≡ is_fragment move

  pub is_partial : (n : ℕ) (s : S) (p : List M × (ℕ × Bool)) → IsAmong p (partials n s) → IsPartial s p
  is_partial zero s p h = absurd h
  is_partial (suc n) s p h =
      let q = among-of-flat (of_choice n s) p (step s) h in
      let c : M × S = q.0 in
      elim (among-append p (when (takes c.0) (c.0 ∷ [], (left s, is_fragment c.0))) _ q.2) [
        | inl k ↦
            let r = of-when (takes c.0) p (c.0 ∷ [], (left s, is_fragment c.0)) k in
            record {
              moves = [];
              move = c.0;
              consumes = record { before = s; after = c.1; path = refl; valid = q.1; is_taken = r.0 };
              all = ap (λ (x : List M × (ℕ × Bool)). x.0) (sym r.1);
              position = ap (λ (x : List M × (ℕ × Bool)). x.1.0) (sym r.1);
              fragment = ap (λ (x : List M × (ℕ × Bool)). x.1.1) (sym r.1);
            }
        | inr k ↦
            let r = among-of-map (λ (p : List M × (ℕ × Bool)). (c.0 ∷ p.0, p.1)) p (partials n c.1) k in
            let i : IsPartial c.1 r.0 = is_partial n c.1 r.0 r.1 in
            record {
              moves = c.0 ∷ i.moves;
              move = i.move;
              consumes = record { before = i.consumes.before; after = i.consumes.after; path = (c.1, q.1, i.consumes.path); valid = i.consumes.valid; is_taken = i.consumes.is_taken };
              all = ap (λ (x : List M × (ℕ × Bool)). x.0) (sym r.2) ∙ ap (λ (l : List M). c.0 ∷ l) i.all;
              position = ap (λ (x : List M × (ℕ × Bool)). x.1.0) (sym r.2) ∙ i.position;
              fragment = ap (λ (x : List M × (ℕ × Bool)). x.1.1) (sym r.2) ∙ i.fragment;
            }
      ]

  pub partial_in : (n : ℕ) (s : S) (moves : List M) (move : M) (c : Consumes s moves move) → length moves < n
      → IsAmong (moves ++ move ∷ [], (left c.before, is_fragment move)) (partials n s)
  partial_in zero s moves move c h = absurd (omega arith)
  partial_in (suc n) s [] move c h =
      subst (λ t. IsAmong (move ∷ [], (left t, is_fragment move)) (partials (suc n) s)) c.path
      (among-flat (of_choice n s) (move, c.after) (step s) _ (subst (λ t. IsAmong (move, c.after) (step t)) (sym c.path) c.valid)
      (among-left _ (when (takes move) (move ∷ [], (left s, is_fragment move))) _ (when-in (takes move) _ c.is_taken)))
  partial_in (suc n) s (m ∷ ms) move c h =
      let p = c.path in
      let rest : Consumes p.0 ms move = record { before = c.before; after = c.after; path = p.2; valid = c.valid; is_taken = c.is_taken } in
      among-flat (of_choice n s) (m, p.0) (step s) _ p.1
      (among-right _ (when (takes m) (m ∷ [], (left s, is_fragment m))) _
      (among-map (λ (p : List M × (ℕ × Bool)). (m ∷ p.0, p.1)) (ms ++ move ∷ [], (left c.before, is_fragment move)) (partials n p.0)
      (partial_in n p.0 ms move rest (omega arith))))

  -- what they consume is what the definition collects
  consumed-of : (n : ℕ) (s : S) (c : M × S) → map (λ (p : List M × (ℕ × Bool)). p.1) (partials n c.1) ≡ takings_from step takes is_fragment left n c.1
      → map (λ (p : List M × (ℕ × Bool)). p.1) (of_choice n s c) ≡ when (takes c.0) (left s, is_fragment c.0) ++ takings_from step takes is_fragment left n c.1
  consumed-of n s c below = go (takes c.0)
    where
      second : (ps : List (List M × (ℕ × Bool))) → map (λ (p : List M × (ℕ × Bool)). p.1) (map (λ (p : List M × (ℕ × Bool)). (c.0 ∷ p.0, p.1)) ps) ≡ map (λ (p : List M × (ℕ × Bool)). p.1) ps
      second [] = refl
      second (p ∷ ps) = ap (λ l. p.1 ∷ l) (second ps)

      go : (b : Bool) → map (λ (p : List M × (ℕ × Bool)). p.1) (when b (c.0 ∷ [], (left s, is_fragment c.0)) ++ map (λ (p : List M × (ℕ × Bool)). (c.0 ∷ p.0, p.1)) (partials n c.1))
          ≡ when b (left s, is_fragment c.0) ++ takings_from step takes is_fragment left n c.1
      go true = ap (λ l. (left s, is_fragment c.0) ∷ l) (second (partials n c.1) ∙ below)
      go false = second (partials n c.1) ∙ below

  consumed-all : (n : ℕ) (s : S) → ((c : M × S) → map (λ (p : List M × (ℕ × Bool)). p.1) (partials n c.1) ≡ takings_from step takes is_fragment left n c.1)
      → (cs : List (M × S)) → map (λ (p : List M × (ℕ × Bool)). p.1) (flat_map (of_choice n s) cs)
      ≡ flat_map (λ c. when (takes c.0) (left s, is_fragment c.0) ++ takings_from step takes is_fragment left n c.1) cs
  consumed-all n s below [] = refl
  consumed-all n s below (c ∷ cs) =
      map-append (λ (p : List M × (ℕ × Bool)). p.1) (of_choice n s c) (flat_map (of_choice n s) cs)
      ∙ ap (λ l. l ++ map (λ (p : List M × (ℕ × Bool)). p.1) (flat_map (of_choice n s) cs)) (consumed-of n s c (below c))
      ∙ ap (λ l. (when (takes c.0) (left s, is_fragment c.0) ++ takings_from step takes is_fragment left n c.1) ++ l) (consumed-all n s below cs)

  pub consumed : (n : ℕ) (s : S) → map (λ (p : List M × (ℕ × Bool)). p.1) (partials n s) ≡ takings_from step takes is_fragment left n s
  consumed zero s = refl
  consumed (suc n) s = consumed-all n s (λ c. consumed n c.1) (step s)

  -- ---- where the moves of a state differ, so do the paths

  module _ (apart : (s : S) → AreApart (λ (c : M × S). c.0) (step s)) where
    none-empty : (n : ℕ) (s : S) (p : List M × (ℕ × Bool)) → IsAmong p (partials n s) → p.0 ≡ [] → ⊥
    none-empty n s p h e = go (is_partial n s p h)
      where
        go : IsPartial s p → ⊥
        go i = no i.moves (sym i.all ∙ e)
          where
            no : (ms : List M) → ms ++ i.move ∷ [] ≡ [] → ⊥
            no [] k = absurd (cc k)
            no (m ∷ ms) k = absurd (cc k)

    choice-begins : (n : ℕ) (s : S) (c : M × S) (p : List M × (ℕ × Bool)) → IsAmong p (of_choice n s c) → (more : List M) × (p.0 ≡ c.0 ∷ more)
    choice-begins n s c p h =
        elim (among-append p (when (takes c.0) (c.0 ∷ [], (left s, is_fragment c.0))) _ h) [
          | inl k ↦ ([], ap (λ (x : List M × (ℕ × Bool)). x.0) (sym (of-when (takes c.0) p _ k).1))
          | inr k ↦
              let r = among-of-map (λ (p : List M × (ℕ × Bool)). (c.0 ∷ p.0, p.1)) p (partials n c.1) k in
              (r.0.0, ap (λ (x : List M × (ℕ × Bool)). x.0) (sym r.2))
        ]

    pub partials-apart : (n : ℕ) (s : S) → AreApart (λ (p : List M × (ℕ × Bool)). p.0) (partials n s)
    partials-apart zero s = tt
    partials-apart (suc n) s =
        apart-flat (λ (c : M × S). c.0) (λ (p : List M × (ℕ × Bool)). p.0) (of_choice n s) (step s) (apart s)
        (λ c. apart-append (λ (p : List M × (ℕ × Bool)). p.0) (when (takes c.0) (c.0 ∷ [], (left s, is_fragment c.0))) _
        (apart-when _ (takes c.0) _)
        (apart-map (λ (p : List M × (ℕ × Bool)). p.0) (λ (p : List M × (ℕ × Bool)). p.0) (λ (p : List M × (ℕ × Bool)). (c.0 ∷ p.0, p.1))
        (λ x y e. cc) (partials n c.1) (partials-apart n c.1))
        (λ x y h k e.
        let one = of-when (takes c.0) x _ h in
        let two = among-of-map (λ (p : List M × (ℕ × Bool)). (c.0 ∷ p.0, p.1)) y (partials n c.1) k in
        none-empty n c.1 two.0 two.1 (
        let a : c.0 ∷ two.0.0 ≡ y.0 = ap (λ (x : List M × (ℕ × Bool)). x.0) two.2 in
        let b : c.0 ∷ [] ≡ x.0 = ap (λ (x : List M × (ℕ × Bool)). x.0) one.1 in
        let d : c.0 ∷ two.0.0 ≡ c.0 ∷ [] = a ∙ e ∙ sym b in
        cc
        )))
        (choice-begins n s)

    pub paths-apart : (ends : S → Bool) (n : ℕ) (s : S) → AreApart (λ (ms : List M). ms) (paths_from step ends n s)
    paths-apart ends zero s = apart-when _ (ends s) []
    paths-apart ends (suc n) s =
        apart-append (λ (ms : List M). ms) (when (ends s) []) _ (apart-when _ (ends s) [])
        (apart-flat (λ (c : M × S). c.0) (λ (ms : List M). ms) (λ c. map (λ ms. c.0 ∷ ms) (paths_from step ends n c.1)) (step s) (apart s)
        (λ c. apart-map (λ (ms : List M). ms) (λ (ms : List M). ms) (λ ms. c.0 ∷ ms) (λ x y e. cc) (paths_from step ends n c.1) (paths-apart ends n c.1))
        (λ c p h. let r = among-of-map (λ ms. c.0 ∷ ms) p (paths_from step ends n c.1) h in (r.0, sym r.2)))
        (λ x y h k e.
        let one = of-when (ends s) x [] h in
        let two = among-of-flat (λ c. map (λ ms. c.0 ∷ ms) (paths_from step ends n c.1)) y (step s) k in
        let r = among-of-map (λ ms. two.0.0 ∷ ms) y (paths_from step ends n two.0.1) two.2 in
        let d : two.0.0 ∷ r.0 ≡ [] = r.2 ∙ e ∙ sym one.1 in
        absurd (cc d))

-- ---- two that consume at one position

clash-any : (bs : List Bool) → clash bs ≡ true → list_any (λ b. b) bs ≡ true
clash-any [] e = absurd (cc e)
clash-any (true ∷ bs) e = refl
clash-any (false ∷ bs) e = e

clash-more : (b : Bool) (bs : List Bool) → clash bs ≡ true → clash (b ∷ bs) ≡ true
clash-more true [] e = absurd (cc e)
clash-more true (c ∷ bs) e = refl
clash-more false bs e = clash-any bs e

clash-first : (b : Bool) (bs : List Bool) → not (is_nil bs) ≡ true → list_any (λ b. b) bs ≡ true → clash (b ∷ bs) ≡ true
clash-first true bs e f = e
clash-first false bs e f = f

-- a test of all that is found at a position, where the first may be found elsewhere
at_first : (q : ℕ) (test : List Bool → Bool) (m : ℕ × Bool) (ms : Takings) (b : Bool) → (m.0 == q) ≡ b
    → test (takings_at q (m ∷ ms)) ≡ test (when b m.1 ++ takings_at q ms)
at_first q test m ms b k = ap (λ b. test (when b m.1 ++ takings_at q ms)) k

at_flag : (test : List Bool → Bool) (d e : Bool) (bs : List Bool) → d ≡ e → test (d ∷ bs) ≡ test (e ∷ bs)
at_flag test d e bs k = ap (λ d. test (d ∷ bs)) k

not-nil-by : (b d : Bool) (bs : List Bool) → not (is_nil bs) ≡ true → not (is_nil (when b d ++ bs)) ≡ true
not-nil-by true d bs e = refl
not-nil-by false d bs e = e

has-by : (b d : Bool) (bs : List Bool) → list_any (λ b. b) bs ≡ true → list_any (λ b. b) (when b d ++ bs) ≡ true
has-by true d bs e = or-right d _ e
has-by false d bs e = e

clash-by : (b d : Bool) (bs : List Bool) → clash bs ≡ true → clash (when b d ++ bs) ≡ true
clash-by true d bs e = clash-more d bs e
clash-by false d bs e = e

module _ {K : Type 0} where
  abbrev found : List (K × (ℕ × Bool)) → Takings
  found xs = map (λ (x : K × (ℕ × Bool)). x.1) xs

  record IsSome (xs : List (K × (ℕ × Bool))) (q : ℕ) : Type 0 where
    it : K × (ℕ × Bool)
    is_in : IsAmong it xs
    position : it.1.0 ≡ q

  record IsFragment (xs : List (K × (ℕ × Bool))) (q : ℕ) : Type 0 where
    it : K × (ℕ × Bool)
    is_in : IsAmong it xs
    position : it.1.0 ≡ q
    fragment : it.1.1 ≡ true

  -- two with different keys at one position, the first a fragment
  pub record AreTwo (xs : List (K × (ℕ × Bool))) (q : ℕ) : Type 0 where
    pub one : K × (ℕ × Bool)
    pub two : K × (ℕ × Bool)
    pub one_in : IsAmong one xs
    pub two_in : IsAmong two xs
    pub differ : two.0 ≡ one.0 → ⊥
    pub one_at : one.1.0 ≡ q
    pub two_at : two.1.0 ≡ q
    pub fragment : one.1.1 ≡ true

  later-some : (x : K × (ℕ × Bool)) (xs : List (K × (ℕ × Bool))) (q : ℕ) → IsSome xs q → IsSome (x ∷ xs) q
  later-some x xs q r = record { it = r.it; is_in = inr r.is_in; position = r.position }

  some-by : (q : ℕ) (x : K × (ℕ × Bool)) (xs : List (K × (ℕ × Bool))) → (not (is_nil (takings_at q (found xs))) ≡ true → IsSome xs q)
      → (b : Bool) → (x.1.0 == q) ≡ b → not (is_nil (when b x.1.1 ++ takings_at q (found xs))) ≡ true → IsSome (x ∷ xs) q
  some-by q x xs below true k e = record { it = x; is_in = inl refl; position = eqb-true x.1.0 q k }
  some-by q x xs below false k e = later-some x xs q (below e)

  some-at : (q : ℕ) (xs : List (K × (ℕ × Bool))) → not (is_nil (takings_at q (found xs))) ≡ true → IsSome xs q
  some-at q [] e = absurd (cc e)
  some-at q (x ∷ xs) e = some-by q x xs (some-at q xs) (x.1.0 == q) refl e

  later-fragment : (x : K × (ℕ × Bool)) (xs : List (K × (ℕ × Bool))) (q : ℕ) → IsFragment xs q → IsFragment (x ∷ xs) q
  later-fragment x xs q r = record { it = r.it; is_in = inr r.is_in; position = r.position; fragment = r.fragment }

  fragment-by : (q : ℕ) (x : K × (ℕ × Bool)) (xs : List (K × (ℕ × Bool))) → (list_any (λ b. b) (takings_at q (found xs)) ≡ true → IsFragment xs q)
      → (b : Bool) → (x.1.0 == q) ≡ b → (d : Bool) → x.1.1 ≡ d → list_any (λ b. b) (when b d ++ takings_at q (found xs)) ≡ true → IsFragment (x ∷ xs) q
  fragment-by q x xs below true k true h e = record { it = x; is_in = inl refl; position = eqb-true x.1.0 q k; fragment = h }
  fragment-by q x xs below true k false h e = later-fragment x xs q (below e)
  fragment-by q x xs below false k d h e = later-fragment x xs q (below e)

  fragment-at : (q : ℕ) (xs : List (K × (ℕ × Bool))) → list_any (λ b. b) (takings_at q (found xs)) ≡ true → IsFragment xs q
  fragment-at q [] e = absurd (cc e)
  fragment-at q (x ∷ xs) e = fragment-by q x xs (fragment-at q xs) (x.1.0 == q) refl x.1.1 refl e

  later-two : (x : K × (ℕ × Bool)) (xs : List (K × (ℕ × Bool))) (q : ℕ) → AreTwo xs q → AreTwo (x ∷ xs) q
  later-two x xs q t =
      record { one = t.one; two = t.two; one_in = inr t.one_in; two_in = inr t.two_in; differ = t.differ; one_at = t.one_at; two_at = t.two_at; fragment = t.fragment }

  two-by : (q : ℕ) (x : K × (ℕ × Bool)) (xs : List (K × (ℕ × Bool))) → ((y : K × (ℕ × Bool)) → IsAmong y xs → y.0 ≡ x.0 → ⊥) → (clash (takings_at q (found xs)) ≡ true → AreTwo xs q)
      → (b : Bool) → (x.1.0 == q) ≡ b → (d : Bool) → x.1.1 ≡ d → clash (when b d ++ takings_at q (found xs)) ≡ true → AreTwo (x ∷ xs) q
  two-by q x xs a below true k true h e =
      let r = some-at q xs e in
      record { one = x; two = r.it; one_in = inl refl; two_in = inr r.is_in; differ = a r.it r.is_in; one_at = eqb-true x.1.0 q k; two_at = r.position; fragment = h }
  two-by q x xs a below true k false h e =
      let r = fragment-at q xs e in
      record { one = r.it; two = x; one_in = inr r.is_in; two_in = inl refl; differ = (λ s. a r.it r.is_in (sym s)); one_at = r.position; two_at = eqb-true x.1.0 q k; fragment = r.fragment }
  two-by q x xs a below false k d h e = later-two x xs q (below e)

  pub two-from : (q : ℕ) (xs : List (K × (ℕ × Bool))) → AreApart (λ (x : K × (ℕ × Bool)). x.0) xs → clash (takings_at q (found xs)) ≡ true → AreTwo xs q
  two-from q [] a e = absurd (cc e)
  two-from q (x ∷ xs) a e = two-by q x xs a.0 (two-from q xs a.1) (x.1.0 == q) refl x.1.1 refl e

  is-here : (x y : K × (ℕ × Bool)) (q : ℕ) → x ≡ y → y.1.0 ≡ q → (x.1.0 == q) ≡ true
  is-here x y q s e = eq-eqb x.1.0 q (ap (λ (z : K × (ℕ × Bool)). z.1.0) s ∙ e)

  not-nil : (q : ℕ) (xs : List (K × (ℕ × Bool))) (y : K × (ℕ × Bool)) → IsAmong y xs → y.1.0 ≡ q → not (is_nil (takings_at q (found xs))) ≡ true
  not-nil q [] y h e = absurd h
  not-nil q (x ∷ xs) y (inl s) e = at_first q (λ bs. not (is_nil bs)) x.1 (found xs) true (is-here x y q s e)
  not-nil q (x ∷ xs) y (inr h) e = not-nil-by (x.1.0 == q) x.1.1 (takings_at q (found xs)) (not-nil q xs y h e)

  has-fragment : (q : ℕ) (xs : List (K × (ℕ × Bool))) (y : K × (ℕ × Bool)) → IsAmong y xs → y.1.0 ≡ q → y.1.1 ≡ true → list_any (λ b. b) (takings_at q (found xs)) ≡ true
  has-fragment q [] y h e f = absurd h
  has-fragment q (x ∷ xs) y (inl s) e f =
      at_first q (list_any (λ b. b)) x.1 (found xs) true (is-here x y q s e)
      ∙ or-left x.1.1 _ (ap (λ (z : K × (ℕ × Bool)). z.1.1) s ∙ f)
  has-fragment q (x ∷ xs) y (inr h) e f = has-by (x.1.0 == q) x.1.1 (takings_at q (found xs)) (has-fragment q xs y h e f)

  pub clash-of-two : (q : ℕ) (xs : List (K × (ℕ × Bool))) (one two : K × (ℕ × Bool)) → IsAmong one xs → IsAmong two xs → (two.0 ≡ one.0 → ⊥)
      → one.1.0 ≡ q → two.1.0 ≡ q → one.1.1 ≡ true → clash (takings_at q (found xs)) ≡ true
  clash-of-two q [] one two h k d a b f = absurd h
  clash-of-two q (x ∷ xs) one two (inl h) (inl k) d a b f = absurd (d (ap (λ (z : K × (ℕ × Bool)). z.0) (sym k ∙ h)))
  clash-of-two q (x ∷ xs) one two (inl h) (inr k) d a b f =
      at_first q clash x.1 (found xs) true (is-here x one q h a)
      ∙ at_flag clash x.1.1 true (takings_at q (found xs)) (ap (λ (z : K × (ℕ × Bool)). z.1.1) h ∙ f)
      ∙ not-nil q xs two k b
  clash-of-two q (x ∷ xs) one two (inr h) (inl k) d a b f =
      at_first q clash x.1 (found xs) true (is-here x two q k b)
      ∙ clash-first x.1.1 (takings_at q (found xs)) (not-nil q xs one h a) (has-fragment q xs one h a f)
  clash-of-two q (x ∷ xs) one two (inr h) (inr k) d a b f =
      clash-by (x.1.0 == q) x.1.1 (takings_at q (found xs)) (clash-of-two q xs one two h k d a b f)

-- ---- clashes and ends of paths

path-end : {M S : Type 0} (step : S → List (M × S)) (s before after : S) (moves : List M) (move : M) → IsPath step s moves before → IsAmong (move, after) (step before)
    → IsPath step s (moves ++ move ∷ []) after
path-end step s before after [] move p v = (after, subst (λ t. IsAmong (move, after) (step t)) (sym p) v, refl)
path-end step s before after (m ∷ ms) move p v = (p.0, p.1, path-end step p.0 before after ms move p.2 v)

length-end : {M : Type 0} (moves : List M) (move : M) → length (moves ++ move ∷ []) ≡ suc (length moves)
length-end [] move = refl
length-end (m ∷ ms) move = ap suc (length-end ms move)

module _ {M S : Type 0} (step : S → List (M × S)) (takes is_fragment : M → Bool) (left : S → ℕ) where
  -- two different partial paths that consume at one position, the first a fragment
  pub record TwoClash (s : S) : Type 0 where
    pub one_moves : List M
    pub one : M
    pub two_moves : List M
    pub two : M
    pub first : Consumes step takes is_fragment left s one_moves one
    pub second : Consumes step takes is_fragment left s two_moves two
    pub differ : two_moves ++ two ∷ [] ≡ one_moves ++ one ∷ [] → ⊥
    pub position : left second.before ≡ left first.before
    pub fragment : is_fragment one ≡ true

  module _ (apart : (s : S) → AreApart (λ (c : M × S). c.0) (step s)) where
    pub clash-two : (n : ℕ) (s : S) → has_clash (takings_from step takes is_fragment left n s) ≡ true → TwoClash s
    clash-two n s h =
        let all : List (List M × (ℕ × Bool)) = partials step takes is_fragment left n s in
        let at = clash-from (takings_from step takes is_fragment left n s) h in
        let found : clash (takings_at at.0 (map (λ (p : List M × (ℕ × Bool)). p.1) all)) ≡ true =
        ap (λ f. clash (takings_at at.0 f)) (consumed step takes is_fragment left n s) ∙ at.1 in
        let t = two-from at.0 all (partials-apart step takes is_fragment left apart n s) found in
        let a = is_partial step takes is_fragment left n s t.one t.one_in in
        let b = is_partial step takes is_fragment left n s t.two t.two_in in
        record {
          one_moves = a.moves;
          one = a.move;
          two_moves = b.moves;
          two = b.move;
          first = a.consumes;
          second = b.consumes;
          differ = (λ e. t.differ (b.all ∙ e ∙ sym a.all));
          position = sym b.position ∙ t.two_at ∙ sym t.one_at ∙ a.position;
          fragment = sym a.fragment ∙ t.fragment;
        }

  module _ (Good : S → Type 0) (bound : S → ℕ)
      (falls : (s : S) (c : M × S) → Good s → IsAmong c (step s) → Good c.1 × (bound c.1 < bound s)) where
    partial-length : (s : S) (moves : List M) (move : M) → Good s → Consumes step takes is_fragment left s moves move → length moves < bound s
    partial-length s moves move g c =
        let whole = path-length step (λ t. true) Good bound falls s c.after (moves ++ move ∷ []) g (path-end step s c.before c.after moves move c.path c.valid) in
        omega (arith, whole, length-end moves move)

    pub two-clash : (n : ℕ) (s : S) → Good s → bound s ≤ n → TwoClash s → has_clash (takings_from step takes is_fragment left n s) ≡ true
    two-clash n s g b t =
        let all : List (List M × (ℕ × Bool)) = partials step takes is_fragment left n s in
        let one = partial_in step takes is_fragment left n s t.one_moves t.one t.first (omega (arith, b, partial-length s t.one_moves t.one g t.first)) in
        let two = partial_in step takes is_fragment left n s t.two_moves t.two t.second (omega (arith, b, partial-length s t.two_moves t.two g t.second)) in
        clash-to (takings_from step takes is_fragment left n s) (
          left t.first.before,
          ap (λ f. clash (takings_at (left t.first.before) f)) (sym (consumed step takes is_fragment left n s))
              ∙ clash-of-two (left t.first.before) all _ _ one two t.differ refl t.position t.fragment,
        )

module _ {M S : Type 0} (step : S → List (M × S)) (ends : S → Bool) where
  -- a path to an end
  abbrev pub IsWhole : S → List M → Type 0
  IsWhole s ms = (t : S) × IsPath step s ms t × (ends t ≡ true)

  pub record TwoPaths (s : S) : Type 0 where
    pub one : List M
    pub two : List M
    pub one_whole : IsWhole s one
    pub two_whole : IsWhole s two
    pub differ : one ≡ two → ⊥

  module _ (Good : S → Type 0) (bound : S → ℕ)
      (falls : (s : S) (c : M × S) → Good s → IsAmong c (step s) → Good c.1 × (bound c.1 < bound s))
      (apart : (s : S) → AreApart (λ (c : M × S). c.0) (step s)) where
    in-list : (n : ℕ) (s : S) (ms : List M) → Good s → bound s ≤ n → IsWhole s ms → IsAmong ms (paths_from step ends n s)
    in-list n s ms g b w = listed step ends n s w.0 ms w.1 w.2 (omega (arith, b, path-length step ends Good bound falls s w.0 ms g w.1))

    pub none-or-two : (n : ℕ) (s : S) → Good s → bound s ≤ n → only (paths_from step ends n s) ≡ None → ((ms : List M) → IsWhole s ms → ⊥) ⊎ TwoPaths s
    none-or-two n s g b h = go (paths_from step ends n s) refl h
      where
        go : (all : List (List M)) → paths_from step ends n s ≡ all → only all ≡ None → ((ms : List M) → IsWhole s ms → ⊥) ⊎ TwoPaths s
        go [] e k = inl (λ ms w. subst (IsAmong ms) e (in-list n s ms g b w))
        go (x ∷ []) e k = absurd (cc k)
        go (x ∷ y ∷ more) e k =
            inr (record {
              one = x;
              two = y;
              one_whole = is_path step ends n s x (subst (IsAmong x) (sym e) (inl refl));
              two_whole = is_path step ends n s y (subst (IsAmong y) (sym e) (inr (inl refl)));
              differ = (λ d. (subst (AreApart (λ (ms : List M). ms)) e (paths-apart step (λ m. true) (λ m. true) bound apart ends n s)).0 y (inl refl) (sym d));
            })

    pub one-only : (n : ℕ) (s : S) (ms : List M) → Good s → bound s ≤ n → IsWhole s ms → ((ns : List M) → IsWhole s ns → ns ≡ ms) → only (paths_from step ends n s) ≡ Some ms
    one-only n s ms g b w others = go (paths_from step ends n s) refl (in-list n s ms g b w)
      where
        go : (all : List (List M)) → paths_from step ends n s ≡ all → IsAmong ms all → only (paths_from step ends n s) ≡ Some ms
        go [] e k = absurd k
        go (x ∷ []) e k = ap only e ∙ ap Some (others x (is_path step ends n s x (subst (IsAmong x) (sym e) (inl refl))))
        go (x ∷ y ∷ more) e k =
            absurd ((subst (AreApart (λ (ms : List M). ms)) e (paths-apart step (λ m. true) (λ m. true) bound apart ends n s)).0 y (inl refl)
            (others y (is_path step ends n s y (subst (IsAmong y) (sym e) (inr (inl refl)))) ∙ sym (others x (is_path step ends n s x (subst (IsAmong x) (sym e) (inl refl))))))
