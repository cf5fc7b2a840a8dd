-- What is consumed, position by position: what waits there shows each clash.
use Rattle.std.proofs.Common.{◌≡◌, inl, inr, refl, sym, ap, ◌∙◌, ℕ, zero, suc, ◌<◌, ◌==◌, Bool, true, false, List, [], ◌∷◌, ◌++◌, map, append_assoc, Some, None, arith}
use Rattle.std.specs.List.{flat_map}
use Rattle.std.proofs.lemmas.Bool.{eqb-true, eqb-false, eq-eqb}
use Rattle.std.proofs.lemmas.Grind.{flat_map-append}
use Rattle.tt_data.specs.Forest.{Forest}
use Rattle.mbe_rules.specs.Items.{Items, has_empty_round}
use Rattle.mbe_matcher.specs.Grammar.{Grammar}
use Rattle.mbe_matcher.specs.Paths.{IsAmong, Takings, clash, takings_at, takings_from, when}
use Rattle.mbe_matcher.specs.Readings as r
use Rattle.mbe_matcher.specs.Settled.{IsKept, sort_of}
use Rattle.mbe_matcher.specs.Threads.{Waits}
use Rattle.mbe_matcher.specs.Units as u
use Rattle.mbe_matcher.specs.Waiting.{Each, Good, advanced_by, empties_at, ended, gather, heads, pending, prefixed, settled_at}
use Rattle.mbe_matcher.proofs.FallingLemmas.{bound}
use Rattle.mbe_matcher.proofs.GatherLemmas.{flat_map-among, gather-enough}
use Rattle.mbe_matcher.proofs.LoopLemmas as loop
use Rattle.mbe_matcher.proofs.MatchingLemmas.{enough-moves, good-start}
use Rattle.mbe_matcher.proofs.MoveLemmas.{does, falls}
use Rattle.mbe_explain.proofs.ClashOnceLemmas.{third}
use Rattle.mbe_explain.proofs.ReachLemmas.{Sort, left_of}

at-append : (q : ℕ) (xs ys : Takings) → takings_at q (xs ++ ys) ≡ takings_at q xs ++ takings_at q ys
at-append q xs ys = flat_map-append (λ m. when (m.0 == q) m.1) xs ys

at-all : {A : Type 0} (q : ℕ) (f : A → Takings) (xs : List A) → takings_at q (flat_map f xs) ≡ flat_map (λ x. takings_at q (f x)) xs
at-all q f [] = refl
at-all q f (x ∷ xs) = at-append q (f x) (flat_map f xs) ∙ ap (λ y. takings_at q (f x) ++ y) (at-all q f xs)

here : (q : ℕ) (b : Bool) (found : Takings) → takings_at q ((q, b) ∷ found) ≡ b ∷ takings_at q found
here q b found = ap (λ x. when x b ++ takings_at q found) (eq-eqb q q refl)

elsewhere : (q p : ℕ) (b : Bool) (found : Takings) → (p ≡ q → ⊥) → takings_at q ((p, b) ∷ found) ≡ takings_at q found
elsewhere q p b found n = go (p == q) refl
  where
    go : (c : Bool) → (p == q) ≡ c → when c b ++ takings_at q found ≡ takings_at q found
    go true e = absurd (n (eqb-true p q e))
    go false e = refl

module _ (gr : Grammar) (N : ℕ) where
  -- all that is consumed from a state on
  abbrev pub taken_after : r.State → Takings
  taken_after s = gather (r.next gr) (λ t. []) (λ t c x. when (r.takes c.0) (left_of t, r.is_fragment c.0) ++ x) (bound N s) s

  -- what a waiting path consumed at q, and all that is consumed after it
  abbrev pub taken_by : ℕ → Waits → Takings
  taken_by q (ended ms) = []
  taken_by q (pending ms b t) = (q, b) ∷ taken_after t

  -- all that is consumed after it
  abbrev pub taken_later : Waits → Takings
  taken_later (ended ms) = []
  taken_later (pending ms b t) = taken_after t

  enough : (s : r.State) (c : r.Choice) → Good N s → IsAmong c (r.next gr s) → r.takes c.0 ≡ false → suc (empties_at c.1) < suc (empties_at s)
  enough s c h a e = let f = (does gr N s c a).empties_fall e h in omega (arith, f)

  keeps : (s : r.State) (c : r.Choice) → Good N s → IsAmong c (r.next gr s) → r.takes c.0 ≡ false → left_of c.1 ≡ left_of s
  keeps s c h a e = ap u.left ((does gr N s c a).stays e)

  lowers : (s : r.State) (c : r.Choice) → Good N s → IsAmong c (r.next gr s) → r.takes c.0 ≡ true → left_of c.1 < left_of s
  lowers s c h a e = (does gr N s c a).lowers e

  same-found : (q : ℕ) (ws : List Waits) → flat_map (loop.found (r.next gr) r.has_used_up r.takes r.is_fragment left_of (bound N) (λ s. suc (empties_at s)) q) ws
      ≡ flat_map (taken_by q) ws
  same-found q [] = refl
  same-found q (ended ms ∷ ws) = same-found q ws
  same-found q (pending ms b t ∷ ws) = ap (λ x. ((q, b) ∷ taken_after t) ++ x) (same-found q ws)

  -- what is consumed from a state on is what waits after it has consumed, and will
  pub taken-settled : (s : r.State) → Good N s → taken_after s ≡ flat_map (taken_by (left_of s)) (settled_at gr s)
  unfolding settled_at
  taken-settled s g =
      sym (loop.found-settled (r.next gr) r.has_used_up r.takes r.is_fragment left_of (bound N) (λ s. suc (empties_at s))
      (Good N) (λ s c h a. falls gr N s c h a) (λ s. omega arith) (λ s. omega arith) enough keeps s g)
      ∙ same-found (left_of s) (settled_at gr s)

  none-passed : (q : ℕ) (s : r.State) → Good N s → left_of s < q → takings_at q (taken_after s) ≡ []
  none-passed q s g h =
      loop.none-passed (r.next gr) r.has_used_up r.takes r.is_fragment left_of (bound N) (λ s. suc (empties_at s))
      (Good N) (λ s c h a. falls gr N s c h a) (λ s. omega arith) (λ s. omega arith) enough keeps lowers q s g h

  pub prefixed-taken : (q : ℕ) (ms : List r.Move) (ws : List Waits) → flat_map (taken_by q) (map (prefixed ms) ws) ≡ flat_map (taken_by q) ws
  prefixed-taken q ms [] = refl
  prefixed-taken q ms (ended ns ∷ ws) = prefixed-taken q ms ws
  prefixed-taken q ms (pending ns b t ∷ ws) = ap (λ x. ((q, b) ∷ taken_after t) ++ x) (prefixed-taken q ms ws)

  -- a waiting path whose state has fewer than q steps left
  abbrev pub IsBelow : ℕ → Waits → Type 0
  IsBelow q (ended ms) = Unit {0}
  IsBelow q (pending ms b t) = Good N t × (left_of t < q)

  -- a waiting path whose state is at this position
  abbrev pub IsThere : u.Place → Waits → Type 0
  IsThere p (ended ms) = Unit {0}
  IsThere p (pending ms b t) = Good N t × (r.place_of t ≡ p)

  -- what is consumed at the position of paths that wait is what they consumed
  pub taken-here : (q : ℕ) (ws : List Waits) → Each (IsBelow q) ws → takings_at q (flat_map (taken_by q) ws) ≡ flat_map heads ws
  taken-here q [] h = refl
  taken-here q (ended ms ∷ ws) (_, h) = taken-here q ws h
  taken-here q (pending ms b t ∷ ws) ((g, l), h) =
      at-append q ((q, b) ∷ taken_after t) (flat_map (taken_by q) ws)
      ∙ ap (λ x. x ++ takings_at q (flat_map (taken_by q) ws)) (here q b (taken_after t) ∙ ap (λ x. b ∷ x) (none-passed q t g l))
      ∙ ap (λ x. b ∷ x) (taken-here q ws h)

  -- nothing is consumed before it
  pub none-before : (q p : ℕ) (ws : List Waits) → p < q → Each (IsBelow p) ws → takings_at q (flat_map (taken_by p) ws) ≡ []
  none-before q p [] l h = refl
  none-before q p (ended ms ∷ ws) l (_, h) = none-before q p ws l h
  none-before q p (pending ms b t ∷ ws) l ((g, k), h) =
      at-append q ((p, b) ∷ taken_after t) (flat_map (taken_by p) ws)
      ∙ ap (λ x. x ++ takings_at q (flat_map (taken_by p) ws))
      (elsewhere q p b (taken_after t) (λ e. omega (arith, l, e)) ∙ none-passed q t g (omega (arith, l, k)))
      ∙ none-before q p ws l h

  taken-elsewhere : (q p : ℕ) → (p ≡ q → ⊥) → (ws : List Waits) → takings_at q (flat_map (taken_by p) ws) ≡ takings_at q (flat_map taken_later ws)
  taken-elsewhere q p n [] = refl
  taken-elsewhere q p n (ended ms ∷ ws) = taken-elsewhere q p n ws
  taken-elsewhere q p n (pending ms b t ∷ ws) =
      at-append q ((p, b) ∷ taken_after t) (flat_map (taken_by p) ws)
      ∙ ap (λ x. x ++ takings_at q (flat_map (taken_by p) ws)) (elsewhere q p b (taken_after t) n)
      ∙ ap (λ x. takings_at q (taken_after t) ++ x) (taken-elsewhere q p n ws)
      ∙ sym (at-append q (taken_after t) (flat_map taken_later ws))

  -- what is consumed later is what the paths that wait next have consumed, and will
  later-advanced : (p : u.Place) (ws : List Waits) → Each (IsThere p) ws →
      flat_map taken_later ws ≡ flat_map (taken_by (u.left p)) (flat_map (advanced_by (settled_at gr)) ws)
  later-advanced p [] h = refl
  later-advanced p (ended ms ∷ ws) (_, h) = later-advanced p ws h
  later-advanced p (pending ms b t ∷ ws) ((g, e), h) =
      ap (λ x. x ++ flat_map taken_later ws)
      (taken-settled t g ∙ ap (λ x. flat_map (taken_by x) (settled_at gr t)) (ap u.left e) ∙ sym (prefixed-taken (u.left p) ms (settled_at gr t)))
      ∙ ap (λ x. flat_map (taken_by (u.left p)) (map (prefixed ms) (settled_at gr t)) ++ x) (later-advanced p ws h)
      ∙ sym (flat_map-append (taken_by (u.left p)) (map (prefixed ms) (settled_at gr t)) (flat_map (advanced_by (settled_at gr)) ws))

  -- where paths wait at p without a clash, and at s next, the clashes elsewhere are those from s on
  pub clashes-advanced : (q p : ℕ) (s : u.Place) (ws : List Waits) → u.left s < p → Each (IsBelow p) ws → Each (IsThere s) ws →
      Each (IsBelow (u.left s)) (flat_map (advanced_by (settled_at gr)) ws) → clash (flat_map heads ws) ≡ false →
      clash (takings_at q (flat_map (taken_by p) ws))
      ≡ clash (takings_at q (flat_map (taken_by (u.left s)) (flat_map (advanced_by (settled_at gr)) ws)))
  clashes-advanced q p s ws l below there next c = go (p == q) refl
    where
      go : (b : Bool) → (p == q) ≡ b → clash (takings_at q (flat_map (taken_by p) ws))
          ≡ clash (takings_at q (flat_map (taken_by (u.left s)) (flat_map (advanced_by (settled_at gr)) ws)))
      go true e =
          let same = eqb-true p q e in
          ap (λ x. clash (takings_at x (flat_map (taken_by p) ws))) (sym same)
          ∙ ap clash (taken-here p ws below) ∙ c
          ∙ sym (ap clash (none-before q (u.left s) (flat_map (advanced_by (settled_at gr)) ws) (omega (arith, same, l)) next))
      go false e = ap clash (taken-elsewhere q p (eqb-false p q e) ws ∙ ap (takings_at q) (later-advanced s ws there))

  taken-sort : ℕ → ℕ → Sort → List Bool
  taken-sort q p None = []
  taken-sort q p (Some k) = takings_at q ((p, k.0) ∷ taken_after k.1)

  by-sort : (q p : ℕ) (w : Waits) → takings_at q (taken_by p w) ≡ taken-sort q p (sort_of w)
  unfolding taken-sort
  by-sort q p (ended ms) = refl
  by-sort q p (pending ms b t) = refl

  kept-from : (q p : ℕ) (before all kept : List Waits) → IsKept before all kept →
      clash (flat_map (λ w. takings_at q (taken_by p w)) (before ++ all)) ≡ clash (flat_map (λ w. takings_at q (taken_by p w)) (before ++ kept))
  kept-from q p before [] kept e = ap (λ k. clash (flat_map (λ w. takings_at q (taken_by p w)) (before ++ k))) (sym e)
  kept-from q p before (w ∷ all) kept (inl (rest, e, k)) =
      let f = λ (ws : List Waits). clash (flat_map (λ w. takings_at q (taken_by p w)) ws) in
      ap f (sym (append_assoc before (w ∷ []) all))
      ∙ kept-from q p (before ++ (w ∷ [])) all rest k
      ∙ ap f (append_assoc before (w ∷ []) rest)
      ∙ ap (λ x. f (before ++ x)) (sym e)
  kept-from q p before (w ∷ all) kept (inr (t, k)) =
      let f = λ (ws : List Waits). clash (flat_map (λ w. takings_at q (taken_by p w)) ws) in
      ap f (sym (append_assoc before (w ∷ []) all))
      ∙ kept-from q p (before ++ (w ∷ [])) all kept k
      ∙ ap f (append_assoc before (w ∷ []) kept)
      ∙ third sort_of (λ w. takings_at q (taken_by p w)) (taken-sort q p) (by-sort q p) before kept w t

  -- what is kept of paths has the clashes of all
  pub clashes-kept : (q p : ℕ) (all kept : List Waits) → IsKept [] all kept →
      clash (takings_at q (flat_map (taken_by p) all)) ≡ clash (takings_at q (flat_map (taken_by p) kept))
  clashes-kept q p all kept k =
      ap clash (at-all q (taken_by p) all) ∙ kept-from q p [] all kept k ∙ ap clash (sym (at-all q (taken_by p) kept))

takings-gather : {M S : Type 0} (step : S → List (M × S)) (t f : M → Bool) (l : S → ℕ) (n : ℕ) (s : S) →
    takings_from step t f l n s ≡ gather step (λ s. []) (λ s c x. when (t c.0) (l s, f c.0) ++ x) n s
takings-gather step t f l zero s = refl
takings-gather step t f l (suc n) s =
    flat_map-among _ _ (step s) (λ c a. ap (λ x. when (t c.0) (l s, f c.0) ++ x) (takings-gather step t f l n c.1))

-- all that partial readings consume is what waits at the beginning has consumed, and will
pub taken-begun : (gr : Grammar) (pattern : Items) (argument : Forest) → has_empty_round pattern ≡ false →
    let s = r.start pattern argument in
    r.takings gr pattern argument ≡ flat_map (taken_by gr (r.room pattern) (left_of s)) (settled_at gr s)
taken-begun gr pattern argument e =
    let N = r.room pattern in
    let s = r.start pattern argument in
    let g = good-start pattern argument e in
    takings-gather (r.next gr) r.takes r.is_fragment left_of (r.most_moves pattern argument) s
    ∙ gather-enough (r.next gr) (λ t. []) (λ t c x. when (r.takes c.0) (left_of t, r.is_fragment c.0) ++ x) (Good N) (bound N) (λ s. omega arith)
    (λ s c h a. inl (falls gr N s c h a)) (r.most_moves pattern argument) (bound N s) s g (enough-moves pattern argument e) (omega arith)
    ∙ taken-settled gr N s g
