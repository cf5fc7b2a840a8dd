-- What is wanted at a position: what the states that are near to those that have come to it want.
use Rattle.std.proofs.Common.{◌≡◌, ◌↔◌, ◌||◌, inl, inr, refl, sym, ap, subst, ◌∙◌, ℕ, ◌≤◌, ◌<◌, Bool, true, false, List, [], ◌∷◌, ◌++◌, Option, Some, None, arith}
use Rattle.std.specs.List.{list_any}
use Rattle.tt_data.specs.Forest.{Forest}
use Rattle.mbe_rules.specs.Items.{Items}
use Rattle.mbe_matcher.specs.Grammar.{Grammar}
use Rattle.mbe_matcher.specs.Paths.{IsAmong, IsPath}
use Rattle.mbe_matcher.specs.Positions.{IsIn}
use Rattle.mbe_matcher.specs.Readings as r
use Rattle.mbe_matcher.specs.Settled.{IsSound, IsSoundAt, sort_of, sorts}
use Rattle.mbe_matcher.specs.Threads as t
use Rattle.mbe_matcher.specs.Units as u
use Rattle.mbe_matcher.specs.Waiting.{Each, Good, ended, pending}
use Rattle.mbe_matcher.specs.declared.position.Consumed.{Consumed}
use Rattle.mbe_matcher.specs.declared.same_state.Seen.{Seen}
use Rattle.mbe_matcher.specs.declared.thread.Thread.{Thread}
use Rattle.mbe_matcher.proofs.KeptLemmas.{among-left, among-right}
use Rattle.mbe_matcher.proofs.LikeLemmas.{one-state-of}
use Rattle.mbe_matcher.proofs.MoveLemmas.{does}
use Rattle.mbe_matcher.proofs.PathListLemmas.{among-append}
use Rattle.mbe_explain.specs.Searches.{IsNearWant, come_by, come_if, come_to, entered_of}
use Rattle.mbe_explain.specs.Stops.{IsWantedAt, Reaches, Wanted}
use Rattle.mbe_explain.specs.Surveys.{comes_if, comes_of}
use Rattle.mbe_explain.specs.declared.step.Step.{Step}
use Rattle.mbe_explain.proofs.ReachLemmas.{left_of, never-back, path-after}
use Rattle.mbe_explain.proofs.StopLemmas.{Entered, IsEntry}

-- ---- steps that have come to a position

-- a state that one has come to waits there
pub come-waits : (p : u.Place) (ss : List Step) (x : r.State) → IsAmong x (come_to p ss) → (b : Bool) × IsAmong (Some (b, x)) (sorts (comes_of p ss))
come-waits p [] x a = absurd a
come-waits p (s ∷ ss) x a =
    elim (among-append x (come_to p ss) (come_by p s) a) [
      | inl b ↦ let o = come-waits p ss x b in (o.0, inr o.1)
      | inr b ↦ go s.taken b
    ]
  where
    go : (o : Option Consumed) → IsAmong x (come_if o (t.state_of s.thread p)) → (b : Bool) × IsAmong (Some (b, x)) (sorts (comes_if s.thread p o ∷ comes_of p ss))
    go None a = absurd a
    go (Some k) (inl e) = (t.is_trees (Some k), inl (ap (λ y. Some (t.is_trees (Some k), y)) e))
    go (Some k) (inr a) = absurd a

-- and each that waits there has come
pub waits-come : (p : u.Place) (ss : List Step) (k : Bool × r.State) → IsAmong (Some k) (sorts (comes_of p ss)) → IsAmong k.1 (come_to p ss)
waits-come p [] k a = absurd a
waits-come p (s ∷ ss) k (inr a) = among-left k.1 (come_to p ss) (come_by p s) (waits-come p ss k a)
waits-come p (s ∷ ss) k (inl e) = among-right k.1 (come_to p ss) (come_by p s) (go s.taken e)
  where
    go : (o : Option Consumed) → sort_of (comes_if s.thread p o) ≡ Some k → IsAmong k.1 (come_if o (t.state_of s.thread p))
    go None e = absurd (cc e)
    go (Some j) e = let i : t.state_of s.thread p ≡ k.1 = cc in inl i

module _ (pattern : Items) (p : u.Place) where
  sound-of : (ws : List t.Waits) (k : Bool × r.State) → IsAmong (Some k) (sorts ws) → Each (IsSoundAt pattern) ws → IsSound pattern k.1
  sound-of [] k a h = absurd a
  sound-of (w ∷ ws) k (inr a) h = sound-of ws k a h.1
  sound-of (ended ms ∷ ws) k (inl e) h = absurd (cc e)
  sound-of (pending ms b x ∷ ws) k (inl e) h = let i : x ≡ k.1 = state-of e in subst (IsSound pattern) i h.0
    where
      state-of : (let y : Option (Bool × r.State) = Some (b, x) in y) ≡ Some k → x ≡ k.1
      state-of e = cc

  -- those that have come are states of the matcher
  pub come-sound : (ss : List Step) → Each (IsSoundAt pattern) (comes_of p ss) → (x : r.State) → IsAmong x (come_to p ss) → IsSound pattern x
  come-sound ss h x a = let o = come-waits p ss x a in sound-of (comes_of p ss) (o.0, x) o.1 h

-- ---- a thread that is visited

-- a thread whose state was entered
pub was-entered : (pattern : Items) (p : u.Place) (h : Thread) (xs : List Seen) → IsIn pattern (t.state_of h p) →
    ((x : r.State) → IsAmong x (entered_of p xs) → IsIn pattern x) → list_any (λ x. t.same_state x.thread h) xs ≡ true → IsAmong (t.state_of h p) (entered_of p xs)
was-entered pattern p h [] i f e = absurd (cc e)
was-entered pattern p h (x ∷ xs) i f e = go (was-entered pattern p h xs i (λ y a. f y (inr a))) (t.same_state x.thread h) refl e
  where
    go : (list_any (λ x. t.same_state x.thread h) xs ≡ true → IsAmong (t.state_of h p) (entered_of p xs)) → (b : Bool) → t.same_state x.thread h ≡ b →
        (b || list_any (λ x. t.same_state x.thread h) xs) ≡ true → IsAmong (t.state_of h p) (entered_of p (x ∷ xs))
    go rec true j k = inl (one-state-of pattern p x.thread h (f (t.state_of x.thread p) (inl refl)) i j)
    go rec false j k = inr (rec k)

-- ---- what is wanted

-- a path to a state at the same position consumes nothing
nothing-taken : (gr : Grammar) (N : ℕ) (s : r.State) → Good N s → (ms : List r.Move) (x : r.State) → IsPath (r.next gr) s ms x → left_of x ≡ left_of s →
    Each (λ m. r.takes m ≡ false) ms
nothing-taken gr N s g [] x p e = tt
nothing-taken gr N s g (m ∷ ms) x (v, a, p) e =
    let d = does gr N s (m, v) a in
    let back = never-back gr N v (d.good g) ms x p in
    go (r.takes m) refl d.lowers (λ i. ap u.left (d.stays i)) back (λ i. nothing-taken gr N v (d.good g) ms x p i)
  where
    go : (b : Bool) → r.takes m ≡ b → (r.takes m ≡ true → left_of v < left_of s) → (r.takes m ≡ false → left_of v ≡ left_of s) → left_of x ≤ left_of v →
        (left_of x ≡ left_of v → Each (λ m. r.takes m ≡ false) ms) → Each (λ m. r.takes m ≡ false) (m ∷ ms)
    go true i l k back rec = let h = l i in absurd (omega (arith, h, back, e))
    go false i l k back rec = (i, rec (e ∙ sym (k i)))

same-place : (gr : Grammar) (N : ℕ) (s : r.State) → Good N s → (ms : List r.Move) (x : r.State) → IsPath (r.next gr) s ms x → Each (λ m. r.takes m ≡ false) ms →
    r.place_of x ≡ r.place_of s
same-place gr N s g [] x e q = ap r.place_of (sym e)
same-place gr N s g (m ∷ ms) x (v, a, p) q =
    let d = does gr N s (m, v) a in
    same-place gr N v (d.good g) ms x p q.1 ∙ d.stays q.0

module _ (gr : Grammar) (pattern : Items) (argument : Forest) where
  entry-of : (p : u.Place) (es : List t.Waits) (k : Bool × r.State) → IsAmong (Some k) (sorts es) → Each (IsEntry gr pattern argument p) es →
      Reaches gr pattern argument k.1 × (r.place_of k.1 ≡ p)
  entry-of p [] k a h = absurd a
  entry-of p (e ∷ es) k (inr a) h = entry-of p es k a h.1
  entry-of p (ended ms ∷ es) k (inl i) h = absurd (cc i)
  entry-of p (pending ms b x ∷ es) k (inl i) h =
      let same : x ≡ k.1 = state-of i in
      subst (λ y. Reaches gr pattern argument y × (r.place_of y ≡ p)) same h.0
    where
      state-of : (let y : Option (Bool × r.State) = Some (b, x) in y) ≡ Some k → x ≡ k.1
      state-of i = cc

  -- what is wanted at the position is what the states that are near want
  pub wanted-near : (p : u.Place) (ss : List Step) → Entered gr pattern argument p (comes_of p ss) → (w : Wanted) →
      IsNearWant gr (come_to p ss) w ↔ IsWantedAt gr pattern argument p w
  wanted-near p ss h w = (to, from)
    where
      to : IsNearWant gr (come_to p ss) w → IsWantedAt gr pattern argument p w
      to (x, n, e) =
          let o = come-waits p ss n.state n.among in
          let i = entry-of p (comes_of p ss) (o.0, n.state) o.1 h.reached in
          let sound = come-sound pattern p ss h.sound n.state n.among in (
            x,
            (i.0.0 ++ n.moves, path-after gr (r.start pattern argument) n.state x i.0.0 n.moves i.0.1 n.path),
            same-place gr (r.room pattern) n.state sound.0 n.moves x n.path n.nothing ∙ i.1,
            e,
          )

      from : IsWantedAt gr pattern argument p w → IsNearWant gr (come_to p ss) w
      from (x, reached, here, e) =
          let l = ap u.left here in
          elim (h.ahead x reached) [
            | inl k ↦ absurd (omega (arith, k, l))
            | inr v ↦
                let a = waits-come p ss (v.fragment, v.state) v.waits in
                let sound = come-sound pattern p ss h.sound v.state a in
                let i = entry-of p (comes_of p ss) (v.fragment, v.state) v.waits h.reached in (
                  x,
                  record {
                    state = v.state;
                    among = a;
                    moves = v.moves;
                    nothing = nothing-taken gr (r.room pattern) v.state sound.0 v.moves x v.path (l ∙ sym (ap u.left i.1));
                    path = v.path;
                  },
                  e,
                )
          ]
