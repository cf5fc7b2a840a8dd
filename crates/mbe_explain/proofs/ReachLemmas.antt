-- Where paths lead: through what waits, or no further than the position.
use Rattle.std.proofs.Common.{◌≡◌, ◌⊎◌, inl, inr, refl, sym, ap, subst, ◌∙◌, ℕ, zero, suc, ◌≤◌, ◌<◌, Bool, true, false, List, [], ◌∷◌, ◌++◌, map, Option, Some, None, arith}
use Rattle.std.specs.List.{flat_map}
use Rattle.tt_data.specs.Forest.{Forest}
use Rattle.mbe_rules.specs.Items.{Items, done, item, group_of, repetition}
use Rattle.tt_data.specs.Forest.{empty, leaf, group}
use Rattle.mbe_matcher.specs.Grammar.{Grammar}
use Rattle.mbe_matcher.specs.Paths.{IsAmong, IsPath, when}
use Rattle.mbe_matcher.specs.Readings as r
use Rattle.mbe_matcher.specs.Settled.{sorts}
use Rattle.mbe_matcher.specs.Units as u
use Rattle.mbe_matcher.specs.Waiting.{Good, Waiting, empties_at, ended, gather, pending, prefixed, settled_at, settled_one}
use Rattle.mbe_matcher.proofs.KeptLemmas.{among-left, among-right, sorts-append, sorts-prefixed}
use Rattle.mbe_matcher.proofs.MatchingLemmas.{settled-at}
use Rattle.mbe_matcher.proofs.MoveLemmas.{does}
use Rattle.mbe_matcher.proofs.PathListLemmas.{among-append}
use Rattle.mbe_explain.specs.Stops.{Reaches}
use Rattle.mbe_explain.proofs.ListLemmas.{in-flat_map, of-flat_map, sorts-flat_map}

-- what a path waits with: nothing at the end, else whether a fragment was consumed, and the state
abbrev pub Sort : Type 0
Sort = Option (Bool × r.State)

-- the steps that are left of a state's argument
abbrev pub left_of : r.State → ℕ
left_of s = u.left (r.place_of s)

-- where the argument is used up, nothing is left of it
pub none-left : (s : r.State) → r.has_used_up s ≡ true → left_of s ≡ 0
none-left (r.at done [] (u.place empty [])) e = refl
none-left (r.at done [] (u.place (leaf l f) outer)) e = absurd (cc e)
none-left (r.at done [] (u.place (group d i f) outer)) e = absurd (cc e)
none-left (r.at done [] (u.place empty (o ∷ outer))) e = absurd (cc e)
none-left (r.at done (f ∷ fs) p) e = absurd (cc e)
none-left (r.at (item i rest) fs p) e = absurd (cc e)
none-left (r.at (group_of d inner rest) fs p) e = absurd (cc e)
none-left (r.at (repetition body sep op rest) fs p) e = absurd (cc e)

module _ (gr : Grammar) where
  -- a path passes a state that waits, and goes on from it
  pub record Passes (x : r.State) (ks : List Sort) : Type 0 where
    pub fragment : Bool
    pub state : r.State
    pub moves : List r.Move
    pub waits : IsAmong (Some (fragment, state)) ks
    pub path : IsPath (r.next gr) state moves x

  -- a path that consumes nothing: it stays at its position, and what ends there waits
  pub record Stays (s x : r.State) (ks : List Sort) : Type 0 where
    pub same : r.place_of x ≡ r.place_of s
    pub ends : r.has_used_up x ≡ true → IsAmong (let k : Sort = None in k) ks

  -- what waits after at most n moves
  abbrev waits_within : ℕ → r.State → List (Waiting r.Move r.State)
  waits_within n s = gather (r.next gr) (λ t. when (r.has_used_up t) (ended [])) (settled_one r.takes r.is_fragment) n s

  -- a path with one more move
  pub one-more : (s t : r.State) (ms : List r.Move) (c : r.Choice) → IsPath (r.next gr) s ms t → IsAmong c (r.next gr t) →
      IsPath (r.next gr) s (ms ++ (c.0 ∷ [])) c.1
  one-more s t [] c e a = (c.1, subst (λ x. IsAmong c (r.next gr x)) (sym e) a, refl)
  one-more s t (m ∷ ms) c (v, b, p) a = (v, b, one-more v t ms c p a)

  -- a path after another
  pub path-after : (s t x : r.State) (ms ns : List r.Move) → IsPath (r.next gr) s ms t → IsPath (r.next gr) t ns x →
      IsPath (r.next gr) s (ms ++ ns) x
  path-after s t x [] ns e p = subst (λ y. IsPath (r.next gr) y ns x) (sym e) p
  path-after s t x (m ∷ ms) ns (v, b, q) p = (v, b, path-after v t x ms ns q p)

  module _ (pattern : Items) (argument : Forest) where
    -- a state that is reached, or an end that is
    abbrev pub IsReached : Sort → Type 0
    IsReached None = (x : r.State) × Reaches gr pattern argument x × (r.has_used_up x ≡ true)
    IsReached (Some k) = Reaches gr pattern argument k.1

    pub reaches-next : (s : r.State) (c : r.Choice) → Reaches gr pattern argument s → IsAmong c (r.next gr s) → Reaches gr pattern argument c.1
    reaches-next s c (ms, p) a = (ms ++ (c.0 ∷ []), one-more (r.start pattern argument) s ms c p a)

    at-end : (s : r.State) → Reaches gr pattern argument s → (k : Sort) (b : Bool) → r.has_used_up s ≡ b →
        IsAmong k (sorts (let w : List (Waiting r.Move r.State) = when b (ended []) in w)) → IsReached k
    at-end s h k true e (inl i) = subst IsReached i (s, h, e)
    at-end s h k true e (inr a) = absurd a
    at-end s h k false e a = absurd a

    gathered : (n : ℕ) (s : r.State) → Reaches gr pattern argument s → (k : Sort) →
        IsAmong k (sorts (waits_within n s)) → IsReached k
    gathered zero s h k a = at-end s h k (r.has_used_up s) refl a
    gathered (suc n) s h k a =
        let base : List (Waiting r.Move r.State) = when (r.has_used_up s) (ended []) in
        let more = λ (c : r.Choice). settled_one r.takes r.is_fragment s c (waits_within n c.1) in
        elim (among-append k (sorts base) (sorts (flat_map more (r.next gr s))) (subst (IsAmong k) (sorts-append base (flat_map more (r.next gr s))) a)) [
          | inl b ↦ at-end s h k (r.has_used_up s) refl b
          | inr b ↦
              let c = of-flat_map (λ c. sorts (more c)) k (r.next gr s) (subst (IsAmong k) (sorts-flat_map more (r.next gr s)) b) in
              one c.0 (gathered n c.0.1 (reaches-next s c.0 h c.1) k) (reaches-next s c.0 h c.1) (r.takes c.0.0) c.2
        ]
      where
        one : (c : r.Choice) → (IsAmong k (sorts (waits_within n c.1)) → IsReached k) → Reaches gr pattern argument c.1 → (b : Bool) →
            IsAmong k (sorts (elim b [ true ↦ pending (c.0 ∷ []) (r.is_fragment c.0) c.1 ∷ [] | false ↦ map (prefixed (c.0 ∷ [])) (waits_within n c.1) ])) → IsReached k
        one c f g true (inl i) = subst IsReached i g
        one c f g true (inr a) = absurd a
        one c f g false a = f (subst (IsAmong k) (sorts-prefixed (c.0 ∷ []) (waits_within n c.1)) a)

    -- what waits after a state that is reached is reached
    pub settled-reached : (s : r.State) → Reaches gr pattern argument s → (k : Sort) → IsAmong k (sorts (settled_at gr s)) → IsReached k
    unfolding settled_at
    settled-reached s h k a = gathered (suc (empties_at s)) s h k a

  -- ---- where a path leads

  module _ (N : ℕ) where
    -- the sorts that wait after a state, move by move
    settled-sorts : (s : r.State) → Good N s → sorts (settled_at gr s)
        ≡ sorts (let w : List (Waiting r.Move r.State) = when (r.has_used_up s) (ended []) in w)
        ++ flat_map (λ c. sorts (settled_one r.takes r.is_fragment s c (settled_at gr c.1))) (r.next gr s)
    settled-sorts s g =
        ap sorts (settled-at gr N s g)
        ∙ sorts-append (when (r.has_used_up s) (ended [])) (flat_map (λ c. settled_one r.takes r.is_fragment s c (settled_at gr c.1)) (r.next gr s))
        ∙ ap (λ x. sorts (let w : List (Waiting r.Move r.State) = when (r.has_used_up s) (ended []) in w) ++ x)
        (sorts-flat_map (λ c. settled_one r.takes r.is_fragment s c (settled_at gr c.1)) (r.next gr s))

    in-next : (s : r.State) → Good N s → (c : r.Choice) → IsAmong c (r.next gr s) → (k : Sort) →
        IsAmong k (sorts (settled_one r.takes r.is_fragment s c (settled_at gr c.1))) → IsAmong k (sorts (settled_at gr s))
    in-next s g c a k h =
        subst (IsAmong k) (sym (settled-sorts s g))
        (among-right k (sorts (let w : List (Waiting r.Move r.State) = when (r.has_used_up s) (ended []) in w))
        (flat_map (λ c. sorts (settled_one r.takes r.is_fragment s c (settled_at gr c.1))) (r.next gr s))
        (in-flat_map (λ c. sorts (settled_one r.takes r.is_fragment s c (settled_at gr c.1))) c k (r.next gr s) a h))

    ends-here : (s : r.State) → Good N s → r.has_used_up s ≡ true → IsAmong (let k : Sort = None in k) (sorts (settled_at gr s))
    ends-here s g e =
        subst (IsAmong None) (sym (settled-sorts s g))
        (among-left None (sorts (let w : List (Waiting r.Move r.State) = when (r.has_used_up s) (ended []) in w))
        (flat_map (λ c. sorts (settled_one r.takes r.is_fragment s c (settled_at gr c.1))) (r.next gr s))
        (subst (λ b. IsAmong None (sorts (let w : List (Waiting r.Move r.State) = when b (ended []) in w))) (sym e) (inl refl)))

    -- each path from a state stays there, or passes what waits after it
    pub leads : (s : r.State) → Good N s → (ms : List r.Move) (x : r.State) → IsPath (r.next gr) s ms x →
        Stays s x (sorts (settled_at gr s)) ⊎ Passes x (sorts (settled_at gr s))
    leads s g [] x e = inl (record { same = ap r.place_of (sym e); ends = λ i. ends-here s g (ap r.has_used_up e ∙ i) })
    leads s g (m ∷ ms) x (v, a, p) = go (λ h. leads v h ms x p) (r.takes m) refl
      where
        go : (Good N v → Stays v x (sorts (settled_at gr v)) ⊎ Passes x (sorts (settled_at gr v))) → (b : Bool) → r.takes m ≡ b → Stays s x (sorts (settled_at gr s)) ⊎ Passes x (sorts (settled_at gr s))
        go f true e = inr (record {
          fragment = r.is_fragment m;
          state = v;
          moves = ms;
          waits = in-next s g (m, v) a (Some (r.is_fragment m, v))
              (subst (λ b. IsAmong (Some (r.is_fragment m, v)) (sorts (elim b [ true ↦ pending (m ∷ []) (r.is_fragment m) v ∷ [] | false ↦ map (prefixed (m ∷ [])) (settled_at gr v) ]))) (sym e) (inl refl));
          path = p;
        })
        go f false e =
            let d = does gr N s (m, v) a in
            let up = λ (k : Sort) (h : IsAmong k (sorts (settled_at gr v))). in-next s g (m, v) a k
            (subst (λ b. IsAmong k (sorts (elim b [ true ↦ pending (m ∷ []) (r.is_fragment m) v ∷ [] | false ↦ map (prefixed (m ∷ [])) (settled_at gr v) ]))) (sym e)
            (subst (IsAmong k) (sym (sorts-prefixed (m ∷ []) (settled_at gr v))) h)) in
            elim (f (d.good g)) [
              | inl h ↦ inl (record { same = h.same ∙ d.stays e; ends = λ i. up None (h.ends i) })
              | inr h ↦ inr (record { fragment = h.fragment; state = h.state; moves = h.moves; waits = up (Some (h.fragment, h.state)) h.waits; path = h.path })
            ]

    -- no path leads back
    pub never-back : (s : r.State) → Good N s → (ms : List r.Move) (x : r.State) → IsPath (r.next gr) s ms x → left_of x ≤ left_of s
    never-back s g [] x e = let i = ap left_of e in omega (arith, i)
    never-back s g (m ∷ ms) x (v, a, p) =
        let d = does gr N s (m, v) a in
        let i = never-back v (d.good g) ms x p in
        go (r.takes m) refl d.lowers (λ e. ap u.left (d.stays e)) i
      where
        go : (b : Bool) → r.takes m ≡ b → (r.takes m ≡ true → left_of v < left_of s) → (r.takes m ≡ false → left_of v ≡ left_of s) →
            left_of x ≤ left_of v → left_of x ≤ left_of s
        go true e l k i = let h = l e in omega (arith, h, i)
        go false e l k i = let h = k e in omega (arith, h, i)
