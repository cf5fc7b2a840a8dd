-- The main loop over the waiting paths of a transition system.
use Rattle.std.proofs.Common.{◌≡◌, ◌⊎◌, inl, inr, refl, sym, ap, subst, ◌∙◌, ℕ, zero, suc, ◌≤◌, ◌<◌, ◌==◌, ◌||◌, not, Bool, true, false, List, [], ◌∷◌, ◌++◌, map, append_assoc, append-nil, Option, arith}
use Rattle.std.specs.List.{flat_map, list_any}
use Rattle.std.proofs.lemmas.List.{map-append}
use Rattle.std.proofs.lemmas.Grind.{flat_map-append}
use Rattle.mbe_rules.specs.Text.{is_nil}
use Rattle.mbe_matcher.specs.Paths.{IsAmong, when, only, Takings, takings_at, clash, has_clash}
use Rattle.std.proofs.lemmas.Bool.{eqb-true, eqb-false, eq-eqb}
use Rattle.mbe_matcher.proofs.ClashLemmas.{or-left, or-right, or-cases, same_bool, clash-from, clash-to}
use Rattle.mbe_matcher.specs.Waiting.{gather, Waiting, ended, pending, prefixed, finished, unless, settled_one, Each, heads, advanced_by, IsFrom, IsTo}
use Rattle.mbe_matcher.proofs.GatherLemmas.{gathered-step}

unless-or : {A : Type 0} (a b : Bool) (x : Option A) → unless (a || b) x ≡ unless a (unless b x)
unless-or true b x = refl
unless-or false b x = refl

map-map : {A B C : Type 0} (f : B → C) (h : A → B) (xs : List A) → map f (map h xs) ≡ map (λ x. f (h x)) xs
map-map f h [] = refl
map-map f h (x ∷ xs) = ap (λ r. f (h x) ∷ r) (map-map f h xs)

map-same : {A B : Type 0} (f h : A → B) → ((x : A) → f x ≡ h x) → (xs : List A) → map f xs ≡ map h xs
map-same f h e [] = refl
map-same f h e (x ∷ xs) = let i = map-same f h e xs in let k = e x in cc

each-append : {A : Type 0} (Q : A → Type 0) (xs ys : List A) → Each Q xs → Each Q ys → Each Q (xs ++ ys)
each-append Q [] ys h k = k
each-append Q (x ∷ xs) ys (a, h) k = (a, each-append Q xs ys h k)

each-flat_map : {A B : Type 0} (Q : B → Type 0) (f : A → List B) (xs : List A) → ((x : A) → IsAmong x xs → Each Q (f x)) → Each Q (flat_map f xs)
each-flat_map Q f [] h = tt
each-flat_map Q f (x ∷ xs) h = each-append Q (f x) (flat_map f xs) (h x (inl refl)) (each-flat_map Q f xs (λ y a. h y (inr a)))

module _ {M S : Type 0} (step : S → List (M × S)) (ends : S → Bool) (takes is_fragment : M → Bool) (left : S → ℕ) (bound empties : S → ℕ) where
  -- a state's readings, its takings and the paths that wait once the moves that take nothing are made
  abbrev pub readings_of : S → List (List M)
  readings_of s = gather step (λ t. when (ends t) []) (λ t c r. map (λ ms. c.0 ∷ ms) r) (bound s) s

  abbrev pub takings_of : S → Takings
  takings_of s = gather step (λ t. []) (λ t c r. when (takes c.0) (left t, is_fragment c.0) ++ r) (bound s) s

  abbrev pub settled : S → List (Waiting M S)
  settled s = gather step (λ t. when (ends t) (ended [])) (settled_one takes is_fragment) (empties s) s

  abbrev pub answers : Waiting M S → List (List M)
  answers (ended ms) = ms ∷ []
  answers (pending ms b t) = map (λ ns. ms ++ ns) (readings_of t)

  abbrev pub later : Waiting M S → Takings
  later (ended ms) = []
  later (pending ms m t) = takings_of t

  abbrev pub advanced : Waiting M S → List (Waiting M S)
  advanced w = advanced_by settled w

  -- what the waiting paths lead to
  abbrev pub outcome : List (Waiting M S) → Option (List M)
  outcome ws = unless (clash (flat_map heads ws)) (unless (has_clash (flat_map later ws)) (only (flat_map answers ws)))

  -- prefixes change only the moves
  answers-prefixed : (ms : List M) (ws : List (Waiting M S)) →
      flat_map answers (map (prefixed ms) ws) ≡ map (λ ns. ms ++ ns) (flat_map answers ws)
  answers-prefixed ms [] = refl
  answers-prefixed ms (ended ns ∷ ws) = ap (λ r. (ms ++ ns) ∷ r) (answers-prefixed ms ws)
  answers-prefixed ms (pending ns m t ∷ ws) =
      let i = answers-prefixed ms ws in
      let e = map-same (λ ks. (ms ++ ns) ++ ks) (λ ks. ms ++ (ns ++ ks)) (λ ks. append_assoc ms ns ks) (readings_of t) in
      let k = map-map (λ ns. ms ++ ns) (λ ks. ns ++ ks) (readings_of t) in
      rw (map-append, i, e, k)

  later-prefixed : (ms : List M) (ws : List (Waiting M S)) → flat_map later (map (prefixed ms) ws) ≡ flat_map later ws
  later-prefixed ms [] = refl
  later-prefixed ms (ended ns ∷ ws) = later-prefixed ms ws
  later-prefixed ms (pending ns m t ∷ ws) = ap (λ r. takings_of t ++ r) (later-prefixed ms ws)

  heads-prefixed : (ms : List M) (ws : List (Waiting M S)) → flat_map heads (map (prefixed ms) ws) ≡ flat_map heads ws
  heads-prefixed ms [] = refl
  heads-prefixed ms (ended ns ∷ ws) = heads-prefixed ms ws
  heads-prefixed ms (pending ns m t ∷ ws) = ap (λ r. m ∷ r) (heads-prefixed ms ws)

  -- the takings that a waiting path leads to, its own at the place q
  abbrev pub found : ℕ → Waiting M S → Takings
  found q (ended ms) = []
  found q (pending ms b t) = (q, b) ∷ takings_of t

  found-prefixed : (q : ℕ) (ms : List M) (ws : List (Waiting M S)) → flat_map (found q) (map (prefixed ms) ws) ≡ flat_map (found q) ws
  found-prefixed q ms [] = refl
  found-prefixed q ms (ended ns ∷ ws) = found-prefixed q ms ws
  found-prefixed q ms (pending ns m t ∷ ws) = ap (λ r. ((q, m) ∷ takings_of t) ++ r) (found-prefixed q ms ws)

  module _ (Good : S → Type 0)
      (falls : (s : S) (c : M × S) → Good s → IsAmong c (step s) → Good c.1 × (bound c.1 < bound s))
      (some : (s : S) → 0 < bound s) (some-empties : (s : S) → 0 < empties s)
      (empties-fall : (s : S) (c : M × S) → Good s → IsAmong c (step s) → takes c.0 ≡ false → empties c.1 < empties s) where
    pub readings-step : (s : S) → Good s → readings_of s ≡ when (ends s) [] ++ flat_map (λ c. map (λ ms. c.0 ∷ ms) (readings_of c.1)) (step s)
    readings-step s g = gathered-step step (λ t. when (ends t) []) (λ t c r. map (λ ms. c.0 ∷ ms) r) Good bound some (λ s c g a. inl (falls s c g a)) s g

    takings-step : (s : S) → Good s → takings_of s ≡ flat_map (λ c. when (takes c.0) (left s, is_fragment c.0) ++ takings_of c.1) (step s)
    takings-step s g = gathered-step step (λ t. []) (λ t c r. when (takes c.0) (left t, is_fragment c.0) ++ r) Good bound some (λ s c g a. inl (falls s c g a)) s g

    pub settled-step : (s : S) → Good s → settled s ≡ when (ends s) (ended []) ++ flat_map (λ c. settled_one takes is_fragment s c (settled c.1)) (step s)
    settled-step s g =
        gathered-step step (λ t. when (ends t) (ended [])) (settled_one takes is_fragment) Good empties some-empties
        (λ s c g a. only-empty s c (falls s c g a).0 (empties-fall s c g a) (takes c.0) refl) s g
      where
        only-empty : (s : S) (c : M × S) → Good c.1 → (takes c.0 ≡ false → empties c.1 < empties s) → (b : Bool) → takes c.0 ≡ b →
            (Good c.1 × (empties c.1 < empties s)) ⊎ ((x y : List (Waiting M S)) → settled_one takes is_fragment s c x ≡ settled_one takes is_fragment s c y)
        only-empty s c g f true e = inr (λ x y. rw (e, settled_one))
        only-empty s c g f false e = inl (g, f e)

    answers-when : (b : Bool) → flat_map answers (when b (ended [])) ≡ when b []
    answers-when true = refl
    answers-when false = refl

    answers-one : (s : S) (c : M × S) → flat_map answers (settled c.1) ≡ readings_of c.1 →
        flat_map answers (settled_one takes is_fragment s c (settled c.1)) ≡ map (λ ms. c.0 ∷ ms) (readings_of c.1)
    answers-one s c e = go (takes c.0)
      where
        go : (b : Bool) → flat_map answers (elim b [ true ↦ pending (c.0 ∷ []) (is_fragment c.0) c.1 ∷ [] | false ↦ map (prefixed (c.0 ∷ [])) (settled c.1) ])
            ≡ map (λ ms. c.0 ∷ ms) (readings_of c.1)
        go true = append-nil _
        go false = answers-prefixed (c.0 ∷ []) (settled c.1) ∙ ap (λ r. map (λ ms. c.0 ∷ ms) r) e

    answers-choices : (s : S) (cs : List (M × S)) → ((c : M × S) → IsAmong c cs → flat_map answers (settled c.1) ≡ readings_of c.1) →
        flat_map answers (flat_map (λ c. settled_one takes is_fragment s c (settled c.1)) cs) ≡ flat_map (λ c. map (λ ms. c.0 ∷ ms) (readings_of c.1)) cs
    answers-choices s [] e = refl
    answers-choices s (c ∷ cs) e =
        rw (flat_map-append, answers-one s c (e c (inl refl)), answers-choices s cs (λ d a. e d (inr a)))

    answers-below : (n : ℕ) (s : S) → bound s < n → Good s → flat_map answers (settled s) ≡ readings_of s
    answers-below zero s h g = absurd (omega arith)
    answers-below (suc n) s h g =
        let e = answers-choices s (step s) (λ c a. let f = falls s c g a in let k = f.1 in answers-below n c.1 (omega arith) f.0) in
        rw (settled-step s g, flat_map-append, answers-when (ends s), e) (sym (readings-step s g))

    -- settling keeps the readings, in their order
    pub answers-settled : (s : S) → Good s → flat_map answers (settled s) ≡ readings_of s
    answers-settled s g = answers-below (suc (bound s)) s (omega arith) g

    module _ (keeps : (s : S) (c : M × S) → Good s → IsAmong c (step s) → takes c.0 ≡ false → left c.1 ≡ left s) where
      found-when : (q : ℕ) (b : Bool) → flat_map (found q) (when b (ended [])) ≡ []
      found-when q true = refl
      found-when q false = refl

      found-one : (s : S) (c : M × S) → (takes c.0 ≡ false → flat_map (found (left s)) (settled c.1) ≡ takings_of c.1) →
          flat_map (found (left s)) (settled_one takes is_fragment s c (settled c.1)) ≡ when (takes c.0) (left s, is_fragment c.0) ++ takings_of c.1
      found-one s c e = go (takes c.0) e
        where
          go : (b : Bool) → (b ≡ false → flat_map (found (left s)) (settled c.1) ≡ takings_of c.1) →
              flat_map (found (left s)) (elim b [ true ↦ pending (c.0 ∷ []) (is_fragment c.0) c.1 ∷ [] | false ↦ map (prefixed (c.0 ∷ [])) (settled c.1) ])
              ≡ when b (left s, is_fragment c.0) ++ takings_of c.1
          go true k = append-nil _
          go false k = found-prefixed (left s) (c.0 ∷ []) (settled c.1) ∙ k refl

      found-choices : (s : S) (cs : List (M × S)) →
          ((c : M × S) → IsAmong c cs → takes c.0 ≡ false → flat_map (found (left s)) (settled c.1) ≡ takings_of c.1) →
          flat_map (found (left s)) (flat_map (λ c. settled_one takes is_fragment s c (settled c.1)) cs)
          ≡ flat_map (λ c. when (takes c.0) (left s, is_fragment c.0) ++ takings_of c.1) cs
      found-choices s [] e = refl
      found-choices s (c ∷ cs) e =
          rw (flat_map-append, found-one s c (e c (inl refl)), found-choices s cs (λ d a. e d (inr a)))

      found-below : (n : ℕ) (s : S) → bound s < n → Good s → flat_map (found (left s)) (settled s) ≡ takings_of s
      found-below zero s h g = absurd (omega arith)
      found-below (suc n) s h g =
          let e = found-choices s (step s) (λ c a t. let f = falls s c g a in let k = f.1 in
          subst (λ q. flat_map (found q) (settled c.1) ≡ takings_of c.1) (keeps s c g a t) (found-below n c.1 (omega arith) f.0)) in
          rw (settled-step s g, flat_map-append, found-when (left s) (ends s), e) (sym (takings-step s g))

      -- settling keeps the takings, in their order
      pub found-settled : (s : S) → Good s → flat_map (found (left s)) (settled s) ≡ takings_of s
      found-settled s g = found-below (suc (bound s)) s (omega arith) g

      module _ (lowers : (s : S) (c : M × S) → Good s → IsAmong c (step s) → takes c.0 ≡ true → left c.1 < left s) where
        at-append : (q : ℕ) (xs ys : Takings) → takings_at q (xs ++ ys) ≡ takings_at q xs ++ takings_at q ys
        at-append q xs ys = flat_map-append (λ m. when (m.0 == q) m.1) xs ys

        other : (q : ℕ) (m : ℕ × Bool) → (m.0 ≡ q → ⊥) → takings_at q (m ∷ []) ≡ []
        other q m h = go (m.0 == q) refl
          where
            go : (b : Bool) → (m.0 == q) ≡ b → takings_at q (m ∷ []) ≡ []
            go true e = absurd (h (eqb-true m.0 q e))
            go false e = rw e

        none-choices : (q : ℕ) (s : S) → left s < q → (cs : List (M × S)) → ((c : M × S) → IsAmong c cs → takings_at q (takings_of c.1) ≡ []) →
            takings_at q (flat_map (λ c. when (takes c.0) (left s, is_fragment c.0) ++ takings_of c.1) cs) ≡ []
        none-choices q s h [] e = refl
        none-choices q s h (c ∷ cs) e =
            at-append q (when (takes c.0) (left s, is_fragment c.0) ++ takings_of c.1) _
            ∙ ap (λ r. r ++ takings_at q (flat_map (λ c. when (takes c.0) (left s, is_fragment c.0) ++ takings_of c.1) cs))
            (at-append q (when (takes c.0) (left s, is_fragment c.0)) (takings_of c.1)
            ∙ ap (λ r. r ++ takings_at q (takings_of c.1)) (go (takes c.0))
            ∙ e c (inl refl))
            ∙ none-choices q s h cs (λ d a. e d (inr a))
          where
            go : (b : Bool) → takings_at q (when b (left s, is_fragment c.0)) ≡ []
            go true = other q (left s, is_fragment c.0) (λ k. omega arith)
            go false = refl

        falls_left : (s : S) (c : M × S) → Good s → IsAmong c (step s) → left c.1 ≤ left s
        falls_left s c g a = go (takes c.0) refl
          where
            go : (b : Bool) → takes c.0 ≡ b → left c.1 ≤ left s
            go true e = let k = lowers s c g a e in omega arith
            go false e = let k = keeps s c g a e in omega arith

        none-below : (n : ℕ) (q : ℕ) (s : S) → bound s < n → Good s → left s < q → takings_at q (takings_of s) ≡ []
        none-below zero q s h g k = absurd (omega arith)
        none-below (suc n) q s h g k =
            ap (takings_at q) (takings-step s g)
            ∙ none-choices q s k (step s) (λ c a.
            let f = falls s c g a in let b = f.1 in let l = falls_left s c g a in
            none-below n q c.1 (omega arith) f.0 (omega arith))

        -- nothing is taken at a place that was passed
        pub none-passed : (q : ℕ) (s : S) → Good s → left s < q → takings_at q (takings_of s) ≡ []
        none-passed q s g k = none-below (suc (bound s)) q s (omega arith) g k

        -- a waiting path whose move was made where q steps were left
        abbrev pub Lower : ℕ → Waiting M S → Type 0
        Lower q (ended ms) = Unit {0}
        Lower q (pending ms m t) = Good t × (left t < q)

        here : (q : ℕ) (ws : List (Waiting M S)) → Each (Lower q) ws → takings_at q (flat_map (found q) ws) ≡ flat_map heads ws
        here q [] h = refl
        here q (ended ms ∷ ws) (_, h) = here q ws h
        here q (pending ms m t ∷ ws) ((g, l), h) =
            at-append q ((q, m) ∷ takings_of t) (flat_map (found q) ws)
            ∙ rw (at-append q ((q, m) ∷ []) (takings_of t), none-passed q t g l, here q ws h, eq-eqb q q refl)

        there : (q : ℕ) (ws : List (Waiting M S)) → Each (Lower q) ws → takings_at q (flat_map later ws) ≡ []
        there q [] h = refl
        there q (ended ms ∷ ws) (_, h) = there q ws h
        there q (pending ms m t ∷ ws) ((g, l), h) =
            at-append q (takings_of t) (flat_map later ws) ∙ rw (none-passed q t g l) (there q ws h)

        elsewhere : (q r : ℕ) → (q ≡ r → ⊥) → (ws : List (Waiting M S)) →
            takings_at r (flat_map (found q) ws) ≡ takings_at r (flat_map later ws)
        elsewhere q r n [] = refl
        elsewhere q r n (ended ms ∷ ws) = elsewhere q r n ws
        elsewhere q r n (pending ms m t ∷ ws) =
            at-append r ((q, m) ∷ takings_of t) (flat_map (found q) ws)
            ∙ ap (λ x. x ++ takings_at r (flat_map (found q) ws)) (at-append r ((q, m) ∷ []) (takings_of t))
            ∙ rw (other r (q, m) n, elsewhere q r n ws) (sym (at-append r (takings_of t) (flat_map later ws)))

        -- a clash of all that is found is one at the place or a later one
        pub clashes : (q : ℕ) (ws : List (Waiting M S)) → Each (Lower q) ws →
            has_clash (flat_map (found q) ws) ≡ (clash (flat_map heads ws) || has_clash (flat_map later ws))
        clashes q ws h = same_bool _ _ to from
          where
            to : has_clash (flat_map (found q) ws) ≡ true → (clash (flat_map heads ws) || has_clash (flat_map later ws)) ≡ true
            to e =
                let k = clash-from (flat_map (found q) ws) e in
                go k.0 k.1 (q == k.0) refl
              where
                go : (r : ℕ) → clash (takings_at r (flat_map (found q) ws)) ≡ true → (b : Bool) → (q == r) ≡ b →
                    (clash (flat_map heads ws) || has_clash (flat_map later ws)) ≡ true
                go r c true i =
                    or-left (clash (flat_map heads ws)) _
                    (subst (λ x. clash x ≡ true) (here q ws h)
                    (subst (λ x. clash (takings_at x (flat_map (found q) ws)) ≡ true) (sym (eqb-true q r i)) c))
                go r c false i =
                    or-right (clash (flat_map heads ws)) _
                    (clash-to (flat_map later ws)
                    (r, subst (λ x. clash x ≡ true) (elsewhere q r (eqb-false q r i) ws) c))

            from : (clash (flat_map heads ws) || has_clash (flat_map later ws)) ≡ true → has_clash (flat_map (found q) ws) ≡ true
            from e =
                elim (or-cases (clash (flat_map heads ws)) _ e) [
                  | inl k ↦ clash-to (flat_map (found q) ws) (q, subst (λ x. clash x ≡ true) (sym (here q ws h)) k)
                  | inr k ↦ let c = clash-from (flat_map later ws) k in go c.0 c.1 (q == c.0) refl
                ]
              where
                go : (r : ℕ) → clash (takings_at r (flat_map later ws)) ≡ true → (b : Bool) → (q == r) ≡ b →
                    has_clash (flat_map (found q) ws) ≡ true
                go r c true i =
                    let z : takings_at r (flat_map later ws) ≡ [] =
                    subst (λ x. takings_at x (flat_map later ws) ≡ []) (eqb-true q r i) (there q ws h) in
                    let k : clash [] ≡ true = subst (λ x. clash x ≡ true) z c in absurd (cc k)
                go r c false i =
                    clash-to (flat_map (found q) ws)
                    (r, subst (λ x. clash x ≡ true) (sym (elsewhere q r (eqb-false q r i) ws)) c)

        module _ {P : Type 0} (place : S → P) (after : P → P) (left_at : P → ℕ)
            (by_place : (s : S) → left s ≡ left_at (place s))
            (stays : (s : S) (c : M × S) → Good s → IsAmong c (step s) → takes c.0 ≡ false → place c.1 ≡ place s)
            (unit : (s : S) (c : M × S) → Good s → IsAmong c (step s) → takes c.0 ≡ true → is_fragment c.0 ≡ false → place c.1 ≡ after (place s)) where
          abbrev pub From : P → Waiting M S → Type 0
          From p w = IsFrom Good left place left_at after p w

          abbrev pub To : ℕ → P → Waiting M S → Type 0
          To q r w = IsTo Good left place q r w

          from-prefixed : (p : P) (ms : List M) (ws : List (Waiting M S)) → Each (From p) ws → Each (From p) (map (prefixed ms) ws)
          from-prefixed p ms [] h = tt
          from-prefixed p ms (ended ns ∷ ws) (_, h) = (tt, from-prefixed p ms ws h)
          from-prefixed p ms (pending ns m t ∷ ws) (a, h) = (a, from-prefixed p ms ws h)

          lower-from : (p : P) (ws : List (Waiting M S)) → Each (From p) ws → Each (Lower (left_at p)) ws
          lower-from p [] h = tt
          lower-from p (ended ns ∷ ws) (_, h) = (tt, lower-from p ws h)
          lower-from p (pending ns m t ∷ ws) (a, h) = ((a.0, a.1), lower-from p ws h)

          from-one : (s : S) (c : M × S) → Good s → IsAmong c (step s) → (takes c.0 ≡ false → Each (From (place s)) (settled c.1)) →
              Each (From (place s)) (settled_one takes is_fragment s c (settled c.1))
          from-one s c g a e = go (takes c.0) refl
            where
              go : (b : Bool) → takes c.0 ≡ b →
                  Each (From (place s)) (elim b [ true ↦ pending (c.0 ∷ []) (is_fragment c.0) c.1 ∷ [] | false ↦ map (prefixed (c.0 ∷ [])) (settled c.1) ])
              go true k =
                  let l = lowers s c g a k in let b = by_place s in
                  (((falls s c g a).0, omega arith, unit s c g a k), tt)
              go false k = from-prefixed (place s) (c.0 ∷ []) (settled c.1) (e k)

          from-below : (n : ℕ) (s : S) → bound s < n → Good s → Each (From (place s)) (settled s)
          from-below zero s h g = absurd (omega arith)
          from-below (suc n) s h g =
              subst (Each (From (place s))) (sym (settled-step s g))
              (each-append (From (place s)) (when (ends s) (ended [])) _ (first (ends s))
              (each-flat_map (From (place s)) (λ c. settled_one takes is_fragment s c (settled c.1)) (step s)
              (λ c a. from-one s c g a (λ k.
              let f = falls s c g a in let b = f.1 in
              subst (λ p. Each (From p) (settled c.1)) (stays s c g a k) (from-below n c.1 (omega arith) f.0)))))
            where
              first : (b : Bool) → Each (From (place s)) (when b (ended []))
              first true = (tt, tt)
              first false = tt

          -- the paths that wait at a place have their moves there
          pub from-settled : (s : S) → Good s → Each (From (place s)) (settled s)
          from-settled s g = from-below (suc (bound s)) s (omega arith) g

          units : (p : P) (ws : List (Waiting M S)) → Each (From p) ws → list_any (λ b. b) (flat_map heads ws) ≡ false →
              Each (To (left_at p) (after p)) ws
          units p [] h e = tt
          units p (ended ms ∷ ws) (_, h) e = (tt, units p ws h e)
          units p (pending ms m t ∷ ws) (a, h) e = go (units p ws h) m refl e
            where
              go : (list_any (λ b. b) (flat_map heads ws) ≡ false → Each (To (left_at p) (after p)) ws) → (b : Bool) → m ≡ b → (b || list_any (λ b. b) (flat_map heads ws)) ≡ false →
                  Each (To (left_at p) (after p)) (pending ms m t ∷ ws)
              go rec true i k = absurd (cc k)
              go rec false i k = ((a.0, a.1, a.2 i), rec k)

          alone : (p r : P) (ws : List (Waiting M S)) → is_nil (flat_map heads ws) ≡ true → Each (To (left_at p) r) ws
          alone p r [] e = tt
          alone p r (ended ms ∷ ws) e = (tt, alone p r ws e)
          alone p r (pending ms m t ∷ ws) e = absurd (cc e)

          -- without a clash, all moves lead to one place
          pub one_place : (p : P) (ws : List (Waiting M S)) → Each (From p) ws → clash (flat_map heads ws) ≡ false →
              (r : P) × Each (To (left_at p) r) ws
          one_place p [] h e = (p, tt)
          one_place p (ended ms ∷ ws) (_, h) e = let o = one_place p ws h e in (o.0, (tt, o.1))
          one_place p (pending ms m t ∷ ws) (a, h) e = go m refl e
            where
              go : (b : Bool) → m ≡ b → clash (b ∷ flat_map heads ws) ≡ false →
                  (r : P) × Each (To (left_at p) r) (pending ms m t ∷ ws)
              go true i k = (place t, ((a.0, a.1, refl), alone p (place t) ws (no-not _ k)))
                where
                  no-not : (b : Bool) → not b ≡ false → b ≡ true
                  no-not true e = refl
                  no-not false e = absurd (cc e)
              go false i k = (after p, ((a.0, a.1, a.2 i), units p ws h k))

          later-advanced : (q : ℕ) (r : P) (ws : List (Waiting M S)) → Each (To q r) ws →
              flat_map later ws ≡ flat_map (found (left_at r)) (flat_map advanced ws)
          later-advanced q r [] h = refl
          later-advanced q r (ended ms ∷ ws) (_, h) = later-advanced q r ws h
          later-advanced q r (pending ms m t ∷ ws) (a, h) =
              let e = sym (found-settled t a.0) ∙ ap (λ x. flat_map (found x) (settled t)) (by_place t ∙ ap left_at a.2)
              ∙ sym (found-prefixed (left_at r) ms (settled t)) in
              let i = later-advanced q r ws h in
              rw flat_map-append cc

          answers-advanced : (q : ℕ) (r : P) (ws : List (Waiting M S)) → Each (To q r) ws →
              flat_map answers ws ≡ flat_map answers (flat_map advanced ws)
          answers-advanced q r [] h = refl
          answers-advanced q r (ended ms ∷ ws) (_, h) = ap (λ x. ms ∷ x) (answers-advanced q r ws h)
          answers-advanced q r (pending ms m t ∷ ws) (a, h) =
              let e = ap (map (λ ns. ms ++ ns)) (sym (answers-settled t a.0)) ∙ sym (answers-prefixed ms (settled t)) in
              let i = answers-advanced q r ws h in
              rw flat_map-append cc

          pub from-advanced : (q : ℕ) (r : P) (ws : List (Waiting M S)) → Each (To q r) ws → Each (From r) (flat_map advanced ws)
          from-advanced q r [] h = tt
          from-advanced q r (ended ms ∷ ws) (_, h) = (tt, from-advanced q r ws h)
          from-advanced q r (pending ms m t ∷ ws) (a, h) =
              each-append (From r) (advanced (pending ms m t)) _
              (from-prefixed r ms (settled t) (subst (λ p. Each (From p) (settled t)) a.2 (from-settled t a.0)))
              (from-advanced q r ws h)

          -- the step of the main loop: without a clash, what the paths lead to is what they lead to after their moves
          pub advance : (q : ℕ) (r : P) (ws : List (Waiting M S)) → Each (To q r) ws → clash (flat_map heads ws) ≡ false →
              outcome ws ≡ outcome (flat_map advanced ws)
          advance q r ws h e =
              let us = flat_map advanced ws in
              let k = ap has_clash (later-advanced q r ws h) ∙ clashes (left_at r) us (lower-from r us (from-advanced q r ws h)) in
              ap (λ b. unless b (unless (has_clash (flat_map later ws)) (only (flat_map answers ws)))) e
              ∙ ap (λ b. unless b (only (flat_map answers ws))) k
              ∙ unless-or (clash (flat_map heads us)) (has_clash (flat_map later us)) (only (flat_map answers ws))
              ∙ ap (λ x. unless (clash (flat_map heads us)) (unless (has_clash (flat_map later us)) (only x))) (answers-advanced q r ws h)

          -- at the start: settled, the first state leads to its only reading, where no clash is found
          pub begun : (s : S) → Good s → unless (has_clash (takings_of s)) (only (readings_of s)) ≡ outcome (settled s)
          begun s g =
              let us = settled s in
              let k = ap has_clash (sym (found-settled s g) ∙ ap (λ x. flat_map (found x) us) (by_place s))
              ∙ clashes (left_at (place s)) us (lower-from (place s) us (from-settled s g)) in
              ap (λ b. unless b (only (readings_of s))) k
              ∙ unless-or (clash (flat_map heads us)) (has_clash (flat_map later us)) (only (readings_of s))
              ∙ ap (λ x. unless (clash (flat_map heads us)) (unless (has_clash (flat_map later us)) (only x))) (sym (answers-settled s g))

          over-parts : (ws : List (Waiting M S)) → is_nil (flat_map heads ws) ≡ true →
              (flat_map heads ws ≡ []) × (flat_map later ws ≡ []) × (flat_map answers ws ≡ flat_map finished ws)
          over-parts [] e = (refl, refl, refl)
          over-parts (ended ms ∷ ws) e = let o = over-parts ws e in (o.0, o.1, ap (λ x. ms ∷ x) o.2)
          over-parts (pending ms m t ∷ ws) e = absurd (cc e)

          -- at the end: where none waits for a move, the paths that have ended are the readings
          pub over : (ws : List (Waiting M S)) → is_nil (flat_map heads ws) ≡ true → outcome ws ≡ only (flat_map finished ws)
          over ws e = let o = over-parts ws e in
              ap (λ x. unless (clash x) (unless (has_clash (flat_map later ws)) (only (flat_map answers ws)))) o.0
              ∙ ap (λ x. unless (has_clash x) (only (flat_map answers ws))) o.1
              ∙ ap only o.2
