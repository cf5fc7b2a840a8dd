-- What is known of the partial readings at a position, and what their stop shows.
use Rattle.std.proofs.Common.{◌≡◌, ◌⊎◌, inl, inr, refl, sym, ap, subst, ◌∙◌, ℕ, ◌≤◌, ◌<◌, Bool, true, false, List, [], ◌∷◌, ◌++◌, map, append-nil, Option, Some, None, if◌then◌else◌, arith}
use Rattle.std.specs.List.{flat_map}
use Rattle.tt_data.specs.Forest.{Forest}
use Rattle.mbe_rules.specs.Items.{Items, has_empty_round}
use Rattle.mbe_rules.specs.Text.{is_nil}
use Rattle.mbe_matcher.specs.Grammar.{Grammar}
use Rattle.mbe_matcher.specs.Paths.{IsAmong, clash, has_clash, only, takings_at}
use Rattle.mbe_matcher.specs.Places.{place_after}
use Rattle.mbe_matcher.specs.Readings as r
use Rattle.mbe_matcher.specs.Settled.{IsKept, IsSound, IsSoundAt, sorts}
use Rattle.mbe_matcher.specs.Threads as t
use Rattle.mbe_matcher.specs.Units as u
use Rattle.mbe_matcher.specs.Waiting.{Each, Good, IsTo, advanced_by, ended, finished, heads, pending, prefixed, settled_at, unless}
use Rattle.mbe_matcher.specs.declared.position.Consumed.{Consumed}
use Rattle.mbe_matcher.proofs.ClashLemmas.{clash-from}
use Rattle.mbe_matcher.proofs.GatherLemmas.{none-among}
use Rattle.mbe_matcher.proofs.KeptLemmas.{sorts-prefixed}
use Rattle.mbe_matcher.proofs.MatchingLemmas.{enough-moves, good-start, outcome_at, outcome_later}
use Rattle.mbe_matcher.proofs.MoveLemmas.{falls}
use Rattle.mbe_matcher.proofs.FallingLemmas.{bound}
use Rattle.mbe_matcher.proofs.PathListLemmas.{is_path, listed, path-length}
use Rattle.mbe_matcher.proofs.SoundLemmas.{AllFrom, AllTo, Sound, advance-at, from-advanced-at, one_place-at, over-at, sound-start}
use Rattle.mbe_matcher.proofs.TheLoopLemmas.{Held, start-held}
use Rattle.mbe_explain.specs.Surveys.{comes_if, comes_of, first_or, head_taken, takings_if, takings_of, waits_if, waits_of}
use Rattle.mbe_explain.specs.declared.step.Step.{Step}
use Rattle.mbe_explain.specs.Stops.{HasTwoReadings, IsFirstClash, IsUnreadAt, Reaches}
use Rattle.mbe_explain.proofs.DifferLemmas.{AllDiffer, next-differ, paths-differ}
use Rattle.mbe_explain.proofs.KeptSortLemmas.{all-are-kept, kept-of-all}
use Rattle.mbe_explain.proofs.ListLemmas.{in-flat_map, of-flat_map, sorts-flat_map}
use Rattle.mbe_explain.proofs.ReachLemmas.{IsReached, Passes, Sort, leads, left_of, none-left, settled-reached}
use Rattle.mbe_explain.proofs.TakenLemmas.{IsBelow, IsThere, clashes-advanced, clashes-kept, none-before, prefixed-taken, taken-begun, taken-here, taken_by}

same-heads : (p : u.Place) (ss : List Step) → flat_map heads (waits_of p ss) ≡ flat_map (λ (s : Step). takings_if s.taken) ss
same-heads p [] = refl
same-heads p (s ∷ ss) = go s.taken (same-heads p ss)
  where
    go : (o : Option Consumed) → flat_map heads (waits_of p ss) ≡ flat_map (λ (s : Step). takings_if s.taken) ss →
        flat_map heads (waits_if s.thread p o ∷ waits_of p ss) ≡ takings_if o ++ flat_map (λ (s : Step). takings_if s.taken) ss
    go None e = e
    go (Some k) e = ap (λ x. t.is_trees (Some k) ∷ x) e

module _ (gr : Grammar) (pattern : Items) (argument : Forest) where
  -- a path that waits has come to a state at this position, or to the end
  abbrev pub IsEntry : u.Place → t.Waits → Type 0
  IsEntry p (ended ms) = IsReached gr pattern argument None
  IsEntry p (pending ms b s) = Reaches gr pattern argument s × (r.place_of s ≡ p)

  -- a state that is not further than a position, and at no end unless one waits
  pub record IsBehind (p : u.Place) (x : r.State) (ks : List Sort) : Type 0 where
    pub not_further : u.left p ≤ left_of x
    pub ends : r.has_used_up x ≡ true → IsAmong (let k : Sort = None in k) ks

  abbrev pub next_of : List t.Waits → List t.Waits
  next_of es = flat_map (advanced_by (settled_at gr)) es

  -- the partial readings that have come to a position
  pub record Entered (p : u.Place) (es : List t.Waits) : Type 0 where
    pub sound : Each (IsSoundAt pattern) es
    pub held : Held gr pattern argument p (next_of es)
    pub clashes : (q : ℕ) → clash (takings_at q (r.takings gr pattern argument))
        ≡ clash (takings_at q (flat_map (taken_by gr (r.room pattern) (u.left p)) (next_of es)))
    pub reached : Each (IsEntry p) es
    pub ahead : (x : r.State) → Reaches gr pattern argument x → (u.left p < left_of x) ⊎ Passes gr x (sorts es)
    pub some : (s : r.State) × Reaches gr pattern argument s × (r.place_of s ≡ p)

  -- what waits at a position
  pub record Waited (p : u.Place) (ws : List t.Waits) : Type 0 where
    pub held : Held gr pattern argument p ws
    pub clashes : (q : ℕ) → clash (takings_at q (r.takings gr pattern argument))
        ≡ clash (takings_at q (flat_map (taken_by gr (r.room pattern) (u.left p)) ws))
    pub reached : (k : Sort) → IsAmong k (sorts ws) → IsReached gr pattern argument k
    pub ahead : (x : r.State) → Reaches gr pattern argument x → IsBehind p x (sorts ws) ⊎ Passes gr x (sorts ws)
    pub some : (s : r.State) × Reaches gr pattern argument s × (r.place_of s ≡ p)

  -- ---- the beginning

  begun : has_empty_round pattern ≡ false → Entered (u.place argument []) (pending [] false (r.start pattern argument) ∷ [])
  begun e =
      let s = r.start pattern argument in
      let all = settled_at gr s in
      let p = u.place argument [] in
      record {
        sound = (sound-start gr pattern argument e, tt);
        held = start-held gr pattern argument p e refl (map (prefixed []) all ++ []) (append-nil (map (prefixed []) all));
        clashes = λ q. ap (λ x. clash (takings_at q x))
            (taken-begun gr pattern argument e
            ∙ sym (prefixed-taken gr (r.room pattern) (u.left p) [] all)
            ∙ ap (flat_map (taken_by gr (r.room pattern) (u.left p))) (sym (append-nil (map (prefixed []) all))));
        reached = ((([], refl), refl), tt);
        ahead = λ x h. inr (record { fragment = false; state = s; moves = h.0; waits = inl refl; path = h.1 });
        some = (s, ([], refl), refl);
      }

  pub entered-first : has_empty_round pattern ≡ false → (p : u.Place) (ms : List r.Move) (s : r.State) →
      p ≡ u.place argument [] → ms ≡ [] → s ≡ r.at pattern [] p → Entered p (pending ms false s ∷ [])
  entered-first e p ms s i j k =
      let same : s ≡ r.start pattern argument = k ∙ ap (r.at pattern []) i in
      subst (λ x. Entered x (pending ms false s ∷ [])) (sym i)
      (subst (λ x. Entered (u.place argument []) (pending x false s ∷ [])) (sym j)
      (subst (λ x. Entered (u.place argument []) (pending [] false x ∷ [])) (sym same) (begun e)))

  -- ---- what waits after those that have come

  -- one of those that have come
  record One (p : u.Place) (s : r.State) (all : List Sort) : Type 0 where
    sound : IsSound pattern s
    reached : Reaches gr pattern argument s
    here : r.place_of s ≡ p
    waits : (k : Sort) → IsAmong k (sorts (settled_at gr s)) → IsAmong k all

  one-of : (p : u.Place) (es : List t.Waits) (k : Bool × r.State) (all : List Sort) → IsAmong (Some k) (sorts es) →
      Each (IsSoundAt pattern) es → Each (IsEntry p) es →
      ((e : t.Waits) → IsAmong e es → (k : Sort) → IsAmong k (sorts (advanced_by (settled_at gr) e)) → IsAmong k all) → One p k.1 all
  one-of p [] k all a h i f = absurd a
  one-of p (ended ms ∷ es) k all (inl e) h i f = absurd (cc e)
  one-of p (pending ms b s ∷ es) k all (inl e) h i f =
      let same : s ≡ k.1 = state-of e in
      subst (λ x. One p x all) same (record {
        sound = h.0;
        reached = i.0.0;
        here = i.0.1;
        waits = λ j a. f (pending ms b s) (inl refl) j (subst (IsAmong j) (sym (sorts-prefixed ms (settled_at gr s))) a);
      })
    where
      state-of : (let x : Sort = Some (b, s) in x) ≡ Some k → s ≡ k.1
      state-of e = cc
  one-of p (e ∷ es) k all (inr a) h i f = one-of p es k all a h.1 i.1 (λ x j. f x (inr j))

  waits-reached : (p : u.Place) (es : List t.Waits) → Each (IsEntry p) es → (k : Sort) → IsAmong k (sorts (next_of es)) → IsReached gr pattern argument k
  waits-reached p es h k a =
      let o = of-flat_map (λ e. sorts (advanced_by (settled_at gr) e)) k es (subst (IsAmong k) (sorts-flat_map (advanced_by (settled_at gr)) es) a) in
      go es h o.0 o.1 o.2
    where
      at : (e : t.Waits) → IsEntry p e → IsAmong k (sorts (advanced_by (settled_at gr) e)) → IsReached gr pattern argument k
      at (ended ms) i (inl j) = subst (IsReached gr pattern argument) j i
      at (ended ms) i (inr j) = absurd j
      at (pending ms b s) i j = settled-reached gr pattern argument s i.0 k (subst (IsAmong k) (sorts-prefixed ms (settled_at gr s)) j)

      go : (es : List t.Waits) → Each (IsEntry p) es → (e : t.Waits) → IsAmong e es → IsAmong k (sorts (advanced_by (settled_at gr) e)) → IsReached gr pattern argument k
      go [] h e a j = absurd a
      go (x ∷ es) h e (inl i) j = at e (subst (IsEntry p) i h.0) j
      go (x ∷ es) h e (inr a) j = go es h.1 e a j

  -- all that waits after them
  all-wait : (p : u.Place) (es : List t.Waits) → Entered p es → Waited p (next_of es)
  all-wait p es h = record {
    held = h.held;
    clashes = h.clashes;
    reached = waits-reached p es h.reached;
    ahead = λ x i. elim (h.ahead x i) [
      | inl l ↦ inl (record { not_further = omega (arith, l); ends = λ e. let z = none-left x e in absurd (omega (arith, l, z)) })
      | inr w ↦
          let o = one-of p es (w.fragment, w.state) (sorts (next_of es)) w.waits h.sound h.reached
          (λ e a k j. subst (IsAmong k) (sym (sorts-flat_map (advanced_by (settled_at gr)) es)) (in-flat_map (λ e. sorts (advanced_by (settled_at gr) e)) e k es a j)) in
          elim (leads gr (r.room pattern) w.state o.sound.0 w.moves x w.path) [
            | inl s ↦
                let l = ap u.left (s.same ∙ o.here) in
                inl (record { not_further = omega (arith, l); ends = λ e. o.waits None (s.ends e) })
            | inr v ↦ inr (record { fragment = v.fragment; state = v.state; moves = v.moves; waits = o.waits (Some (v.fragment, v.state)) v.waits; path = v.path })
          ]
    ];
    some = h.some;
  }

  -- and what is kept of it
  pub some-wait : (p : u.Place) (es kept : List t.Waits) → Entered p es → IsKept [] (next_of es) kept → Held gr pattern argument p kept → Waited p kept
  some-wait p es kept h k held =
      let w = all-wait p es h in
      let all = next_of es in
      let up = all-are-kept all kept k in
      record {
        held = held;
        clashes = λ q. w.clashes q ∙ clashes-kept gr (r.room pattern) q (u.left p) all kept k;
        reached = λ j a. w.reached j (kept-of-all [] all kept k j a);
        ahead = λ x i. elim (w.ahead x i) [
          | inl b ↦ inl (record { not_further = b.not_further; ends = λ e. up None (b.ends e) })
          | inr v ↦ inr (record { fragment = v.fragment; state = v.state; moves = v.moves; waits = up (Some (v.fragment, v.state)) v.waits; path = v.path })
        ];
        some = w.some;
      }

  -- ---- the next position

  below : (p : u.Place) (ws : List t.Waits) → AllFrom gr pattern p ws → Each (IsBelow gr (r.room pattern) (u.left p)) ws
  below p [] h = tt
  below p (ended ms ∷ ws) h = (tt, below p ws h.1)
  below p (pending ms b s ∷ ws) h = ((h.0.0.0, h.0.1), below p ws h.1)

  there : (q : ℕ) (s : u.Place) (ws : List t.Waits) → AllTo gr pattern q s ws → Each (IsThere gr (r.room pattern) s) ws
  there q s [] h = tt
  there q s (ended ms ∷ ws) h = (tt, there q s ws h.1)
  there q s (pending ms b x ∷ ws) h = ((h.0.0.0, h.0.2), there q s ws h.1)

  -- the paths are those of their threads at the next position
  moved : (b : ℕ) (p s : u.Place) (ss : List Step) → AllTo gr pattern b s (waits_of p ss) → waits_of p ss ≡ comes_of s ss
  moved b p s [] a = refl
  moved b p s (v ∷ ss) a = go v.taken a.0 (moved b p s ss a.1)
    where
      go : (o : Option Consumed) → IsTo (Sound gr pattern) left_of r.place_of b s (waits_if v.thread p o) → waits_of p ss ≡ comes_of s ss →
          waits_if v.thread p o ∷ waits_of p ss ≡ comes_if v.thread s o ∷ comes_of s ss
      go None h e = ap (λ x. ended (t.moves_of v.thread.moves) ∷ x) e
      go (Some k) h e =
          let f : t.state_of v.thread (place_after p (Some k)) ≡ t.state_of v.thread s = ap (t.state_of v.thread) h.2 in
          ap (λ x. pending (t.moves_of v.thread.moves) (t.is_trees (Some k)) x ∷ waits_of p ss) f
          ∙ ap (λ x. pending (t.moves_of v.thread.moves) (t.is_trees (Some k)) (t.state_of v.thread s) ∷ x) e

  -- where the first one leads that has consumed something
  goal-of : (b : ℕ) (p s : u.Place) (ss : List Step) (k : Consumed) → AllTo gr pattern b s (waits_of p ss) → head_taken ss ≡ Some k →
      (place_after p (Some k) ≡ s) × (u.left s < b)
  goal-of b p s [] k a e = absurd (cc e)
  goal-of b p s (v ∷ ss) k a e = go v.taken a.0 (goal-of b p s ss k a.1) e
    where
      go : (o : Option Consumed) → IsTo (Sound gr pattern) left_of r.place_of b s (waits_if v.thread p o) →
          (head_taken ss ≡ Some k → (place_after p (Some k) ≡ s) × (u.left s < b)) → first_or o (head_taken ss) ≡ Some k → (place_after p (Some k) ≡ s) × (u.left s < b)
      go None h rec i = rec i
      go (Some j) h rec i =
          let same : j ≡ k = cc in
          (ap (λ x. place_after p (Some x)) (sym same) ∙ h.2, subst (λ x. u.left x < b) h.2 h.1)

  some-pending : (p : u.Place) (ss : List Step) (k : Consumed) → head_taken ss ≡ Some k → (x : Bool × r.State) × IsAmong (Some x) (sorts (waits_of p ss))
  some-pending p [] k e = absurd (cc e)
  some-pending p (v ∷ ss) k e = go v.taken (some-pending p ss k) e
    where
      go : (o : Option Consumed) → (head_taken ss ≡ Some k → (x : Bool × r.State) × IsAmong (Some x) (sorts (waits_of p ss))) → first_or o (head_taken ss) ≡ Some k →
          (x : Bool × r.State) × IsAmong (Some x) (sorts (waits_if v.thread p o ∷ waits_of p ss))
      go None rec i = let o = rec i in (o.0, inr o.1)
      go (Some j) rec i = ((t.is_trees (Some j), t.state_of v.thread (place_after p (Some j))), inl refl)

  -- those that come are states of the matcher
  sound-to : (b : ℕ) (s : u.Place) (ws : List t.Waits) → AllTo gr pattern b s ws → Each (IsSoundAt pattern) ws
  sound-to b s [] a = tt
  sound-to b s (ended ms ∷ ws) a = (tt, sound-to b s ws a.1)
  sound-to b s (pending ms c x ∷ ws) a = (a.0.0, sound-to b s ws a.1)

  entries : (s : u.Place) (ws : List t.Waits) → ((k : Sort) → IsAmong k (sorts ws) → IsReached gr pattern argument k) → Each (IsThere gr (r.room pattern) s) ws →
      Each (IsEntry s) ws
  entries s [] f h = tt
  entries s (ended ms ∷ ws) f h = (f None (inl refl), entries s ws (λ k a. f k (inr a)) h.1)
  entries s (pending ms b x ∷ ws) f h = ((f (Some (b, x)) (inl refl), h.0.1), entries s ws (λ k a. f k (inr a)) h.1)

  there-of : (s : u.Place) (ws : List t.Waits) (k : Bool × r.State) → IsAmong (Some k) (sorts ws) → Each (IsThere gr (r.room pattern) s) ws → r.place_of k.1 ≡ s
  there-of s [] k a h = absurd a
  there-of s (ended ms ∷ ws) k (inl e) h = absurd (cc e)
  there-of s (pending ms b x ∷ ws) k (inl e) h = let i : x ≡ k.1 = state-of e in ap r.place_of (sym i) ∙ h.0.1
    where
      state-of : (let y : Sort = Some (b, x) in y) ≡ Some k → x ≡ k.1
      state-of e = cc
  there-of s (w ∷ ws) k (inr a) h = there-of s ws k a h.1

  -- without a clash, all that waits comes to the next position
  pub record Next (p s : u.Place) (ss : List Step) : Type 0 where
    pub entered : Entered s (comes_of s ss)
    pub lower : u.left s < u.left p

  pub next-entered : (p s : u.Place) (ss : List Step) (k : Consumed) → Waited p (waits_of p ss) → clash (takings_of ss) ≡ false →
      head_taken ss ≡ Some k → s ≡ place_after p (Some k) → Next p s ss
  next-entered p s ss k h c e i =
      let ws = waits_of p ss in
      let N = r.room pattern in
      let n : clash (flat_map heads ws) ≡ false = ap clash (same-heads p ss) ∙ c in
      let o = one_place-at gr pattern p ws h.held.here n in
      let f : o.0 ≡ s = sym (goal-of (u.left p) p o.0 ss k o.1 e).0 ∙ sym i in
      let a : AllTo gr pattern (u.left p) s ws = subst (λ x. AllTo gr pattern (u.left p) x ws) f o.1 in
      let lower = (goal-of (u.left p) p s ss k a e).1 in
      let m = moved (u.left p) p s ss a in
      let th = there (u.left p) s ws a in
      let from = from-advanced-at gr pattern (u.left p) s ws a in
      record {
        entered = record {
          sound = subst (Each (IsSoundAt pattern)) m (sound-to (u.left p) s ws a);
          held = record {
            same = ap (λ x. outcome_at gr N (next_of x)) (sym m) ∙ sym (advance-at gr pattern (u.left p) s ws a n) ∙ h.held.same;
            here = subst (λ x. AllFrom gr pattern s (next_of x)) m from;
          };
          clashes = λ q. h.clashes q
              ∙ clashes-advanced gr N q (u.left p) s ws lower (below p ws h.held.here) th (below s (next_of ws) from) n
              ∙ ap (λ x. clash (takings_at q (flat_map (taken_by gr N (u.left s)) (next_of x)))) m;
          reached = subst (Each (IsEntry s)) m (entries s ws h.reached th);
          ahead = λ x j. elim (h.ahead x j) [
            | inl b ↦ let l = b.not_further in inl (omega (arith, l, lower))
            | inr v ↦ inr (subst (λ y. Passes gr x (sorts y)) m v)
          ];
          some = let v = some-pending p ss k e in (v.0.1, h.reached (Some v.0) v.1, there-of s ws v.0 v.1 th);
        };
        lower = lower;
      }

  -- ---- stops

  pub clash-stop : (p : u.Place) (ss : List Step) → Waited p (waits_of p ss) → clash (takings_of ss) ≡ true → IsFirstClash gr pattern argument p
  clash-stop p ss h c =
      let ws = waits_of p ss in
      let b = below p ws h.held.here in
      record {
        reached = h.some;
        clashes = h.clashes (u.left p) ∙ ap clash (taken-here gr (r.room pattern) (u.left p) ws b ∙ same-heads p ss) ∙ c;
        first = λ q l. h.clashes q ∙ ap clash (none-before gr (r.room pattern) q (u.left p) ws l b);
      }

  -- where a clash waits, no reading is the only one
  pub clash-none : (p : u.Place) (ss : List Step) → Waited p (waits_of p ss) → clash (takings_of ss) ≡ true → None ≡ r.the_reading gr pattern argument
  clash-none p ss h c = go (clash (flat_map heads (waits_of p ss))) (sym (ap clash (same-heads p ss) ∙ c)) ∙ h.held.same
    where
      go : (b : Bool) → true ≡ b → None ≡ unless b (outcome_later gr (r.room pattern) (waits_of p ss))
      go true e = refl
      go false e = absurd (cc e)

  nothing-taken : (q : ℕ) (p : u.Place) (ss : List Step) → head_taken ss ≡ None → flat_map (taken_by gr (r.room pattern) q) (waits_of p ss) ≡ []
  nothing-taken q p [] e = refl
  nothing-taken q p (s ∷ ss) e = go s.taken (nothing-taken q p ss) e
    where
      go : (o : Option Consumed) → (head_taken ss ≡ None → flat_map (taken_by gr (r.room pattern) q) (waits_of p ss) ≡ []) → first_or o (head_taken ss) ≡ None →
          flat_map (taken_by gr (r.room pattern) q) (waits_if s.thread p o ∷ waits_of p ss) ≡ []
      go None rec i = rec i
      go (Some k) rec i = absurd (cc i)

  no-heads : (p : u.Place) (ss : List Step) → head_taken ss ≡ None → is_nil (flat_map heads (waits_of p ss)) ≡ true
  no-heads p [] e = refl
  no-heads p (s ∷ ss) e = go s.taken (no-heads p ss) e
    where
      go : (o : Option Consumed) → (head_taken ss ≡ None → is_nil (flat_map heads (waits_of p ss)) ≡ true) → first_or o (head_taken ss) ≡ None →
          is_nil (flat_map heads (waits_if s.thread p o ∷ waits_of p ss)) ≡ true
      go None rec i = rec i
      go (Some k) rec i = absurd (cc i)

  -- where nothing more is consumed, what has ended is the only reading, if it is one
  pub ended-only : (p : u.Place) (ss : List Step) → Waited p (waits_of p ss) → head_taken ss ≡ None →
      only (flat_map finished (waits_of p ss)) ≡ r.the_reading gr pattern argument
  ended-only p ss h e = sym (over-at gr pattern (waits_of p ss) (no-heads p ss e)) ∙ h.held.same

  -- and no clash is anywhere
  pub no-clash : (p : u.Place) (ss : List Step) → Waited p (waits_of p ss) → head_taken ss ≡ None → has_clash (r.takings gr pattern argument) ≡ false
  no-clash p ss h e = go (has_clash (r.takings gr pattern argument)) refl
    where
      go : (b : Bool) → has_clash (r.takings gr pattern argument) ≡ b → b ≡ false
      go false i = refl
      go true i =
          let c = clash-from (r.takings gr pattern argument) i in
          let n : clash (takings_at c.0 (r.takings gr pattern argument)) ≡ false =
          h.clashes c.0 ∙ ap (λ x. clash (takings_at c.0 x)) (nothing-taken (u.left p) p ss e) in
          absurd (cc (c.1, n))

  -- where nothing waits, the argument is unread
  pub none-stop : (p : u.Place) → Waited p [] → IsUnreadAt gr pattern argument p
  none-stop p h = record {
    clear = no-clash p [] h refl;
    none = none-among (r.readings gr pattern argument) (λ ms a.
        let i = is_path (r.next gr) r.has_used_up (r.most_moves pattern argument) (r.start pattern argument) ms a in
        elim (h.ahead i.0 (ms, i.1)) [ inl b ↦ b.ends i.2 | inr v ↦ v.waits ]);
    furthest = record {
      reached = h.some;
      last = λ x i. elim (h.ahead x i) [ inl b ↦ b.not_further | inr v ↦ absurd v.waits ];
    };
  }

  at-least-one : has_empty_round pattern ≡ false → IsReached gr pattern argument None → (r.readings gr pattern argument ≡ []) → ⊥
  at-least-one e (x, (ms, path), used) none =
      let s = r.start pattern argument in
      let g = good-start pattern argument e in
      let l = path-length (r.next gr) r.has_used_up (Good (r.room pattern)) (bound (r.room pattern)) (λ s c h a. falls gr (r.room pattern) s c h a) s x ms g path in
      let m = enough-moves pattern argument e in
      subst (IsAmong ms) none (listed (r.next gr) r.has_used_up (r.most_moves pattern argument) s x ms path used (omega (arith, l, m)))

  -- where more than one has ended, there are two readings
  pub two-stop : has_empty_round pattern ≡ false → (p : u.Place) (ss : List Step) → Waited p (waits_of p ss) → head_taken ss ≡ None →
      IsAmong (let k : Sort = None in k) (sorts (waits_of p ss)) → None ≡ only (flat_map finished (waits_of p ss)) → HasTwoReadings gr pattern argument
  two-stop e p ss h n one none =
      let clear = no-clash p ss h n in
      let same : r.the_reading gr pattern argument ≡ only (r.readings gr pattern argument) =
      ap (λ x. if x then None else only (r.readings gr pattern argument)) clear in
      go (r.readings gr pattern argument) refl
      (paths-differ (r.next gr) r.has_used_up (next-differ gr) (r.most_moves pattern argument) (r.start pattern argument))
      (none ∙ ended-only p ss h n ∙ same) clear
    where
      go : (all : List (List r.Move)) → r.readings gr pattern argument ≡ all → AllDiffer (r.readings gr pattern argument) → None ≡ only all → has_clash (r.takings gr pattern argument) ≡ false →
          HasTwoReadings gr pattern argument
      go [] i d o c = absurd (at-least-one e (h.reached None one) i)
      go (x ∷ []) i d o c = absurd (cc o)
      go (x ∷ y ∷ all) i d o c =
          let k = subst AllDiffer i d in
          record { clear = c; first = x; second = y; others = all; two = i; differ = λ same. k.0 (inl (sym same)) }
