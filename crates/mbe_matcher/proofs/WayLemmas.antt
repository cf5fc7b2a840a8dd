-- A thread that is alone, as long as its way is clear.
use Rattle.std.proofs.Common.{◌≡◌, inl, inr, refl, sym, ap, subst, ◌∙◌, ℕ, ◌<◌, ◌≤◌, Bool, true, false, List, [], ◌∷◌, ◌++◌, map, Option, Some, None, IfSome, arith}
use Rattle.std.specs.List.{flat_map}
use Rattle.std.proofs.lemmas.List.{append-nil}
use Rattle.std.specs.Borrow.{Bor}
use Rattle.mbe_rules.specs.Items.{Items, may_skip}
use Rattle.mbe_rules.specs.Ops.{items_of}
use Rattle.mbe_matcher.specs.Grammar.{Grammar}
use Rattle.mbe_matcher.specs.Paths.{IsAmong}
use Rattle.mbe_matcher.specs.Places.{place_after}
use Rattle.mbe_matcher.specs.Positions.{IsIn}
use Rattle.mbe_matcher.specs.Readings as r
use Rattle.mbe_matcher.specs.Rounds.{WaitsAfter, WaitsAlone}
use Rattle.mbe_matcher.specs.Settled.{IsSound}
use Rattle.mbe_matcher.specs.Steps.{may_go_on}
use Rattle.mbe_matcher.specs.Threads.{Waits, between_of, contributes, extended, frame_of, frames_in, frames_of, given, is_some_taken, is_trees, made_of, moves_of, repetition_of, state_of}
use Rattle.mbe_matcher.specs.Units as u
use Rattle.mbe_matcher.specs.Waiting.{ended, pending, prefixed, settled_at, empties_at, Good}
use Rattle.mbe_matcher.specs.Ways.{HasNoMove, IsDead, IsOnlyOf, alone, first, second, IsOnly, LeadsAs, Follows, stays, leads, goes_on}
use Rattle.mbe_matcher.specs.declared.step.Waiting.TheVariants.{Ended, Pending}
use Rattle.mbe_matcher.specs.declared.position.Consumed.{Consumed}
use Rattle.mbe_matcher.specs.declared.step.Choice.{Choice}
use Rattle.mbe_matcher.specs.declared.thread.Frame.TheVariants.{InRound}
use Rattle.mbe_matcher.specs.declared.thread.Round.{Round}
use Rattle.mbe_matcher.specs.declared.thread.Rung.{Rung}
use Rattle.mbe_matcher.specs.declared.thread.Thread.{Thread}
use Rattle.mbe_matcher.proofs.MoveLemmas.{does}
use Rattle.mbe_matcher.proofs.OpsLemmas.{entered, skipped, repetition-next, left, further, round-next}
use Rattle.mbe_matcher.proofs.PositionLemmas.{stays-in}
use Rattle.mbe_matcher.proofs.SettlingLemmas.{settled-ended, settled-goes_on}
use Rattle.mbe_matcher.proofs.SoundLemmas.{AllFrom, from-settled-at}

-- it is one of them
only-among : (d : r.Choice) (cs : List r.Choice) → IsOnlyOf d cs → IsAmong d cs
only-among d _ alone = inl refl
only-among d _ (first h) = inl refl
only-among d _ (second h) = inr (inl refl)

-- where no move is made, nothing waits
pub no-move-waits : (gr : Grammar) (ms : List r.Move) (s : r.State) (N : ℕ) → Good N s → HasNoMove s → map (prefixed ms) (settled_at gr s) ≡ []
no-move-waits gr ms s N g h =
    settled-goes_on gr ms s N g (h gr).1 ∙ ap (λ cs. flat_map (contributes gr) (map (extended ms) cs)) (h gr).0

-- so one that is dead contributes nothing
dead-contributes : (gr : Grammar) (ms : List r.Move) (N : ℕ) (e : r.Choice) → IsDead e → Good N e.1 → contributes gr (extended ms e) ≡ []
dead-contributes gr ms N e h g =
    ap (λ b. elim b [ true ↦ pending (ms ++ (e.0 ∷ [])) (r.is_fragment e.0) e.1 ∷ [] | false ↦ map (prefixed (ms ++ (e.0 ∷ []))) (settled_at gr e.1) ]) h.0
    ∙ no-move-waits gr (ms ++ (e.0 ∷ [])) e.1 N g h.1

-- and the only one contributes all
only-contributes : (gr : Grammar) (ms : List r.Move) (s : r.State) (N : ℕ) → Good N s → (d : r.Choice) (cs : List r.Choice) → IsOnlyOf d cs → cs ≡ r.next gr s →
    flat_map (contributes gr) (map (extended ms) cs) ≡ contributes gr (extended ms d)
only-contributes gr ms s N g d _ alone i = append-nil (contributes gr (extended ms d))
only-contributes gr ms s N g d _ (first {e} h) i =
    let k = (does gr N s e (subst (IsAmong e) i (inr (inl refl)))).good g in
    ap (λ x. contributes gr (extended ms d) ++ (x ++ [])) (dead-contributes gr ms N e h k) ∙ append-nil (contributes gr (extended ms d))
only-contributes gr ms s N g d _ (second {e} h) i =
    let k = (does gr N s e (subst (IsAmong e) i (inl refl))).good g in
    ap (λ x. x ++ (contributes gr (extended ms d) ++ [])) (dead-contributes gr ms N e h k) ∙ append-nil (contributes gr (extended ms d))

-- what waits after a thread with only one choice
only-settled : (gr : Grammar) (p : u.Place) (t : Thread) (c : Choice) (N : ℕ) → IsOnly gr p t c → Good N (state_of t p) → r.has_used_up (state_of t p) ≡ false →
    map (prefixed (moves_of t.moves)) (settled_at gr (state_of t p)) ≡ contributes gr (made_of p c)
only-settled gr p t c N (d, e, o) g h =
    settled-goes_on gr (moves_of t.moves) (state_of t p) N g h
    ∙ only-contributes gr (moves_of t.moves) (state_of t p) N g d (r.next gr (state_of t p)) o refl
    ∙ ap (contributes gr) (sym e)

-- it waits, where it consumes something
pub only-waits : (gr : Grammar) (p : u.Place) (t : Thread) (c : Choice) (k : Consumed) → IsOnly gr p t c → r.has_used_up (state_of t p) ≡ false → c.taken ≡ Some k →
    WaitsAlone gr p t (Pending c.thread k)
only-waits gr p t c k o h e N g =
    only-settled gr p t c N o g h
    ∙ ap (λ x. contributes gr (moves_of c.thread.moves, is_some_taken x, is_trees x, state_of c.thread (place_after p x))) e

-- and leads to the same, where it does not
pub only-leads : (gr : Grammar) (p : u.Place) (t : Thread) (c : Choice) → IsOnly gr p t c → r.has_used_up (state_of t p) ≡ false → c.taken ≡ None →
    LeadsAs gr (moves_of t.moves) (state_of t p) (moves_of c.thread.moves) (state_of c.thread p)
only-leads gr p t c (d, e, o) h k =
    let a = only-among d (r.next gr (state_of t p)) o in
    let v : d.1 ≡ state_of c.thread p = sym (ap (λ m. m.3) e) ∙ ap (λ x. state_of c.thread (place_after p x)) k in (
      (λ N g. (
        subst (Good N) v ((does gr N (state_of t p) d a).good g),
        only-settled gr p t c N (d, e, o) g h
            ∙ ap (λ x. contributes gr (moves_of c.thread.moves, is_some_taken x, is_trees x, state_of c.thread (place_after p x))) k,
      )),
      (λ pattern i. subst (IsIn pattern) v (stays-in pattern gr (state_of t p) d i a)),
      refl,
    )

-- fewer moves that consume nothing can follow it
pub only-falls : (gr : Grammar) (p : u.Place) (t : Thread) (c : Choice) (N : ℕ) → IsOnly gr p t c → Good N (state_of t p) → c.taken ≡ None →
    empties_at (state_of c.thread p) < empties_at (state_of t p)
only-falls gr p t c N (d, e, o) g k =
    let a = only-among d (r.next gr (state_of t p)) o in
    let v : d.1 ≡ state_of c.thread p = sym (ap (λ m. m.3) e) ∙ ap (λ x. state_of c.thread (place_after p x)) k in
    let n : r.takes d.0 ≡ false = sym (ap (λ m. m.1) e) ∙ ap is_some_taken k in
    subst (λ x. empties_at x < empties_at (state_of t p)) v ((does gr N (state_of t p) d a).empties_fall n g)

-- a state leads as itself, and as what another one does that it leads as
pub leads-itself : (gr : Grammar) (ms : List r.Move) (s : r.State) → LeadsAs gr ms s ms s
leads-itself gr ms s = ((λ N g. (g, refl)), (λ pattern i. i), refl)

pub leads-on : (gr : Grammar) (ms ns ks : List r.Move) (s t v : r.State) → LeadsAs gr ms s ns t → LeadsAs gr ns t ks v → LeadsAs gr ms s ks v
leads-on gr ms ns ks s t v a b = (
  (λ N g. let x = a.0 N g in let y = b.0 N x.0 in (y.0, x.1 ∙ y.1)),
  (λ pattern i. b.1 pattern (a.1 pattern i)),
  b.2 ∙ a.2,
)

-- so does one that waits alone
pub leads-alone : (gr : Grammar) (p : u.Place) (t v : Thread) (w : _) → LeadsAs gr (moves_of t.moves) (state_of t p) (moves_of v.moves) (state_of v p) →
    WaitsAlone gr p v w → WaitsAlone gr p t w
leads-alone gr p t v w a h N g = let x = a.0 N g in x.1 ∙ h N x.0

-- one that has ended waits alone
pub ended-alone : (gr : Grammar) (p : u.Place) (t : Thread) → r.has_used_up (state_of t p) ≡ true → WaitsAlone gr p t (Ended t.moves)
ended-alone gr p t e N g = settled-ended gr (moves_of t.moves) (state_of t p) N g e

-- ---- the states that a thread reaches alone

-- the one path that waits goes on with a state of the matcher
one-waits : (gr : Grammar) (pattern : Items) (p : u.Place) (ns ks : List r.Move) (b : Bool) (v : r.State) (ws : List Waits) →
    map (prefixed ns) ws ≡ pending ks b v ∷ [] → AllFrom gr pattern p ws → IsSound pattern v × (u.left (r.place_of v) < u.left p)
one-waits gr pattern p ns ks b v [] e a = absurd (cc e)
one-waits gr pattern p ns ks b v (ended ms ∷ ws) e a = absurd (cc e)
one-waits gr pattern p ns ks b v (pending ms c x ∷ ws) e a =
    let same : x ≡ v = cc in
    subst (λ y. IsSound pattern y × (u.left (r.place_of y) < u.left p)) same (a.0.0, a.0.1)

-- less is left where something was consumed
pub waits-lower : (gr : Grammar) (pattern : Items) (ns ks : List r.Move) (t v : r.State) (b : Bool) → IsSound pattern t → WaitsAfter gr ns t (pending ks b v) →
    IsSound pattern v × (u.left (r.place_of v) < u.left (r.place_of t))
waits-lower gr pattern ns ks t v b s h =
    one-waits gr pattern (r.place_of t) ns ks b v (settled_at gr t) (h (r.room pattern) s.0) (from-settled-at gr pattern t s)

-- each is a state of the matcher
pub follows-sound : (gr : Grammar) (pattern : Items) (ms : List r.Move) (s : r.State) (ns : List r.Move) (t : r.State) → Follows gr ms s ns t → IsSound pattern s →
    IsSound pattern t × (u.left (r.place_of t) ≤ u.left (r.place_of s))
follows-sound gr pattern ms s _ _ stays h = (h, omega arith)
follows-sound gr pattern ms s _ _ (leads {ns} {ks} {t} {v} f l) h =
    let i = follows-sound gr pattern ms s ns t f h in
    (((l.0 (r.room pattern) i.0.0).0, l.1 pattern i.0.1), subst (λ x. u.left x ≤ u.left (r.place_of s)) (sym l.2) i.1)
follows-sound gr pattern ms s _ _ (goes_on {ns} {ks} {t} {v} {b} f w) h =
    let i = follows-sound gr pattern ms s ns t f h in
    let k = waits-lower gr pattern ns ks t v b i.0 w in
    let le = i.1 in
    let lt = k.1 in
    (k.0, omega (arith, le, lt))

-- ---- the choices of a repetition

-- after an iteration
module _ (gr : Grammar) (p : u.Place) (t : Thread) (fs : Option (Bor Rung)) (x : Round) (over : t.items.now ≡ []) (f : frames_in t.frames ≡ InRound x ∷ frames_in fs) where
  abbrev l : r.Choice
  l = left gr p t fs x over f

  abbrev d : r.Choice
  d = further gr p t fs x over f

  -- it is left
  pub only-left : (c : Choice) → may_go_on (between_of x.separator) x.kind p ≡ false → made_of p c ≡ extended (moves_of t.moves) l → IsOnly gr p t c
  only-left c e m = (l, m, subst (IsOnlyOf l) (sym (round-next gr p t fs x over f false e)) alone)

  pub over-left : (c : Choice) → may_go_on (between_of x.separator) x.kind p ≡ true → IsDead d → made_of p c ≡ extended (moves_of t.moves) l → IsOnly gr p t c
  over-left c e h m = (l, m, subst (IsOnlyOf l) (sym (round-next gr p t fs x over f true e)) (second h))

  -- or the repetition goes on
  pub only-further : (c : Choice) → may_go_on (between_of x.separator) x.kind p ≡ true → HasNoMove l.1 → made_of p c ≡ extended (moves_of t.moves) d → IsOnly gr p t c
  only-further c e h m = (d, m, subst (IsOnlyOf d) (sym (round-next gr p t fs x over f true e)) (first (refl, h)))

-- before one
module _ (gr : Grammar) (p : u.Place) (t : Thread) (x : Round) (i : items_of t.items.now ≡ repetition_of x) where
  abbrev e : r.Choice
  e = entered gr p t x i

  abbrev s : r.Choice
  s = skipped gr p t x i

  pub enters : (c : Choice) → may_skip x.kind ≡ false → made_of p c ≡ extended (moves_of t.moves) e → IsOnly gr p t c
  enters c k m = (e, m, subst (IsOnlyOf e) (sym (repetition-next gr p t x i false k)) alone)

  pub enters-over : (c : Choice) → HasNoMove s.1 → made_of p c ≡ extended (moves_of t.moves) e → IsOnly gr p t c
  enters-over c h m = go (may_skip x.kind) refl
    where
      go : (b : Bool) → may_skip x.kind ≡ b → IsOnly gr p t c
      go false k = enters c k m
      go true k = (e, m, subst (IsOnlyOf e) (sym (repetition-next gr p t x i true k)) (first (refl, h)))

  pub skips : (c : Choice) → may_skip x.kind ≡ true → ((hs : List r.Frame) → HasNoMove (r.at (items_of x.body.now) hs p)) →
      made_of p c ≡ extended (moves_of t.moves) s → IsOnly gr p t c
  skips c k h m =
      (s, m, subst (IsOnlyOf s) (sym (repetition-next gr p t x i true k)) (second (refl, h (frame_of (InRound x) ∷ frames_of t.frames))))

-- a thread with one choice has only this
pub one-only : (gr : Grammar) (p : u.Place) (t : Thread) (c : Choice) → made_of p c ∷ [] ≡ map (extended (moves_of t.moves)) (r.next gr (state_of t p)) → IsOnly gr p t c
one-only gr p t c e = go (r.next gr (state_of t p)) e
  where
    go : (cs : List r.Choice) → made_of p c ∷ [] ≡ map (extended (moves_of t.moves)) cs →
        (d : r.Choice) × (made_of p c ≡ extended (moves_of t.moves) d) × IsOnlyOf d cs
    go [] h = absurd (cc h)
    go (d ∷ []) h = (d, cc, alone)
    go (d ∷ e ∷ cs) h = absurd (cc h)

pub if-only : (gr : Grammar) (p : u.Place) (t : Thread) (o : Option Choice) → given p o ≡ map (extended (moves_of t.moves)) (r.next gr (state_of t p)) →
    IfSome o (λ c. IsOnly gr p t c)
if-only gr p t None h = tt
if-only gr p t (Some c) h = one-only gr p t c h

-- what is reached from what was reached
pub follows-on : (gr : Grammar) (ms : List r.Move) (s : r.State) (ns : List r.Move) (t : r.State) → Follows gr ms s ns t →
    (ks : List r.Move) (v : r.State) → Follows gr ns t ks v → Follows gr ms s ks v
follows-on gr ms s ns t h _ _ stays = h
follows-on gr ms s xs x h _ _ (leads {ns} {ks} {t} {v} f l) = leads (follows-on gr ms s xs x h ns t f) l
follows-on gr ms s xs x h _ _ (goes_on {ns} {ks} {t} {v} {b} f w) = goes_on (follows-on gr ms s xs x h ns t f) w
