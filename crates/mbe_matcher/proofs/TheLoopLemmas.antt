-- A turn of the main loop, over the threads of the code.
use Rattle.std.proofs.Common.{◌≡◌, refl, sym, ap, subst, ◌∙◌, ℕ, ◌<◌, ◌≤◌, Bool, true, false, List, [], ◌∷◌, ◌++◌, map, Option, Some, None, option_map, length, get_or, arith}
use Rattle.std.specs.List.{flat_map}
use Rattle.std.proofs.lemmas.List.{append-nil}
use Rattle.tt_data.specs.Forest.{Forest}
use Rattle.mbe_rules.specs.Items.{Items, has_empty_round}
use Rattle.mbe_rules.specs.Text.{is_nil}
use Rattle.mbe_matcher.specs.Grammar.{Grammar}
use Rattle.mbe_matcher.specs.Paths.{only, clash}
use Rattle.mbe_matcher.specs.Places as q
use Rattle.mbe_matcher.specs.Readings as r
use Rattle.mbe_matcher.specs.Threads as t
use Rattle.mbe_matcher.specs.Settled.{Leads, IsKept, IsSound, IsSoundAt}
use Rattle.mbe_matcher.specs.Units as u
use Rattle.mbe_matcher.specs.Ways.{Follows, stays, leads, goes_on, last_waits, LeadsAlone}
use Rattle.mbe_matcher.specs.Waiting.{ended, pending, prefixed, finished, settled_at, Each, Good, heads, advanced_by, unless, IsFrom}
use Rattle.mbe_matcher.specs.declared.position.Consumed.{Consumed}
use Rattle.mbe_matcher.specs.declared.same_state.Seen.{Seen}
use Rattle.mbe_matcher.specs.declared.matcher.SettleTask.TheVariants.{GoOn}
use Rattle.mbe_matcher.specs.declared.step.Waiting as d
use Rattle.mbe_matcher.specs.declared.step.Waiting.TheVariants.{Ended, Pending}
use Rattle.mbe_matcher.specs.declared.thread.Thread.{Thread}
use Rattle.mbe_matcher.specs.declared.way.Alone.{Alone}
use Rattle.mbe_matcher.specs.declared.way.Alone.TheVariants.{Done, Open}
use Rattle.mbe_matcher.proofs.MatchingLemmas.{outcome_at, outcome_later, begun-at}
use Rattle.mbe_matcher.proofs.SoundLemmas.{Sound, AllFrom, AllTo, kept-at, advance-at, from-advanced-at, one_place-at, from-settled-at, over-at, sound-start}
use Rattle.mbe_matcher.proofs.DueLemmas.{as_choice, more-due, none-yet}
use Rattle.mbe_matcher.proofs.KeptLemmas.{kept-each}
use Rattle.mbe_matcher.proofs.WayLemmas.{waits-lower, follows-sound}

abbrev pub P : Type 0
P = u.Place

-- the waiting threads lead to the only reading
pub record Held (gr : Grammar) (pattern : Items) (argument : Forest) (p : P) (ws : List t.Waits) : Type 0 where
  pub same : outcome_at gr (r.room pattern) ws ≡ r.the_reading gr pattern argument
  pub here : AllFrom gr pattern p ws

same-heads : (p : P) (ws : List d.Waiting) → flat_map heads (t.waits p ws) ≡ flat_map t.takings_of ws
same-heads p [] = refl
same-heads p (Ended ms ∷ ws) = same-heads p ws
same-heads p (Pending h k ∷ ws) = ap (λ x. t.is_trees (Some k) ∷ x) (same-heads p ws)

no-prefix : (ws : List t.Waits) → map (prefixed []) ws ≡ ws
no-prefix [] = refl
no-prefix (ended ms ∷ ws) = ap (λ x. ended ms ∷ x) (no-prefix ws)
no-prefix (pending ms b s ∷ ws) = ap (λ x. pending ms b s ∷ x) (no-prefix ws)

at-place : (s : u.Place) (h : _) (p : P) → r.place_of (t.state_of h s) ≡ p → t.state_of h s ≡ t.state_of h p
at-place s h p e = ap (t.state_of h) e

same-waits : (gr : Grammar) → (pattern : Items) (b : ℕ) (p s : P) (ws : List d.Waiting) → AllTo gr pattern b s (t.waits p ws) → t.waits p ws ≡ t.waits_at s ws
same-waits gr pattern b p s [] a = refl
same-waits gr pattern b p s (Ended ms ∷ ws) a = ap (λ x. ended (t.moves_of ms) ∷ x) (same-waits gr pattern b p s ws a.1)
same-waits gr pattern b p s (Pending h k ∷ ws) a =
    let e = at-place (q.place_after p (Some k)) h s a.0.2 in
    let i = same-waits gr pattern b p s ws a.1 in
    let f = ap (λ x. pending (t.moves_of h.moves) (t.is_trees (Some k)) x) e in cc

head-place : (gr : Grammar) → (pattern : Items) (b : ℕ) (p s : P) (ws : List d.Waiting) (k : Consumed) → AllTo gr pattern b s (t.waits p ws) → t.head_taken ws ≡ Some k →
    (q.place_after p (Some k) ≡ s) × (u.left s < b)
head-place gr pattern b p s [] k a e = absurd (cc e)
head-place gr pattern b p s (Ended ms ∷ ws) k a e = head-place gr pattern b p s ws k a.1 e
head-place gr pattern b p s (Pending h j ∷ ws) k a e =
    let i : j ≡ k = cc in
    (ap (λ x. q.place_after p (Some x)) (sym i) ∙ a.0.2, subst (λ x. u.left x < b) a.0.2 a.0.1)

good-waits : (gr : Grammar) → (pattern : Items) (b : ℕ) (s : P) (us : List t.Waits) → AllTo gr pattern b s us → Each (IsSoundAt pattern) us
good-waits gr pattern b s [] a = tt
good-waits gr pattern b s (ended ms ∷ us) a = (tt, good-waits gr pattern b s us a.1)
good-waits gr pattern b s (pending ms m x ∷ us) a = (a.0.0, good-waits gr pattern b s us a.1)

pub start-held : (gr : Grammar) → (pattern : Items) (argument : Forest) (p : P) → has_empty_round pattern ≡ false → p ≡ u.place argument [] →
    (ws : List t.Waits) → ws ≡ map (prefixed []) (settled_at gr (r.at pattern [] p)) → Held gr pattern argument p ws
start-held gr pattern argument p e i ws h =
    let k = h ∙ no-prefix (settled_at gr (r.at pattern [] p)) ∙ ap (λ x. settled_at gr (r.at pattern [] x)) i in
    record {
      same = ap (outcome_at gr (r.room pattern)) k ∙ sym (begun-at gr pattern argument e);
      here = rw (k, i) (from-settled-at gr pattern (r.start pattern argument) (sound-start gr pattern argument e));
    }

-- what a turn gr without a clash does
pub record Turn (gr : Grammar) (pattern : Items) (argument : Forest) (p s : P) (ws : List d.Waiting) : Type 0 where
  pub good : Each (IsSoundAt pattern) (t.waits_at s ws)
  pub lower : u.left s < u.left p
  pub held : (us : List t.Waits) → us ≡ flat_map (advanced_by (settled_at gr)) (t.waits_at s ws) → Held gr pattern argument s us

pub turn : (gr : Grammar) → (pattern : Items) (argument : Forest) (p : P) (ws : List d.Waiting) (k : Consumed) →
    Held gr pattern argument p (t.waits p ws) → false ≡ clash (flat_map t.takings_of ws) → Some k ≡ t.head_taken ws →
    (s : P) → s ≡ q.place_after p (Some k) → Turn gr pattern argument p s ws
turn gr pattern argument p ws k h c e s i =
    let N = r.room pattern in
    let n : clash (flat_map heads (t.waits p ws)) ≡ false = ap clash (same-heads p ws) ∙ sym c in
    let o = one_place-at gr pattern p (t.waits p ws) h.here n in
    let f = head-place gr pattern (u.left p) p o.0 ws k o.1 (sym e) in
    let g : o.0 ≡ s = sym f.0 ∙ sym i in
    let a : AllTo gr pattern (u.left p) s (t.waits p ws) = subst (λ x. AllTo gr pattern (u.left p) x (t.waits p ws)) g o.1 in
    let w = same-waits gr pattern (u.left p) p s ws a in
    record {
      good = subst (Each (IsSoundAt pattern)) w (good-waits gr pattern (u.left p) s (t.waits p ws) a);
      lower = subst (λ x. u.left x < u.left p) g f.1;
      held = λ us eq. record {
        same = ap (outcome_at gr N) (eq ∙ ap (flat_map (advanced_by (settled_at gr))) (sym w))
            ∙ sym (advance-at gr pattern (u.left p) s (t.waits p ws) a n) ∙ h.same;
        here = subst (AllFrom gr pattern s) (ap (flat_map (advanced_by (settled_at gr))) w ∙ sym eq)
            (from-advanced-at gr pattern (u.left p) s (t.waits p ws) a);
      };
    }

pub clash-none : (gr : Grammar) → (pattern : Items) (argument : Forest) (p : P) (ws : List d.Waiting) →
    Held gr pattern argument p (t.waits p ws) → true ≡ clash (flat_map t.takings_of ws) → None ≡ r.the_reading gr pattern argument
clash-none gr pattern argument p ws h c =
    go (clash (flat_map heads (t.waits p ws))) (c ∙ ap clash (sym (same-heads p ws))) ∙ h.same
  where
    go : (b : Bool) → true ≡ b → None ≡ unless b (outcome_later gr (r.room pattern) (t.waits p ws))
    go true e = refl
    go false e = absurd (cc e)

none-waits : (p : P) (ws : List d.Waiting) → t.head_taken ws ≡ None → is_nil (flat_map heads (t.waits p ws)) ≡ true
none-waits p [] e = refl
none-waits p (Ended ms ∷ ws) e = none-waits p ws e
none-waits p (Pending h k ∷ ws) e = absurd (cc e)

pub ended-only : (gr : Grammar) → (pattern : Items) (argument : Forest) (p : P) (ws : List d.Waiting) →
    Held gr pattern argument p (t.waits p ws) → t.head_taken ws ≡ None →
    only (flat_map finished (t.waits p ws)) ≡ r.the_reading gr pattern argument
ended-only gr pattern argument p ws h e =
    sym (over-at gr pattern (t.waits p ws) (none-waits p ws e)) ∙ h.same

pub not-one : (p : P) (ws : List d.Waiting) → t.head_taken ws ≡ None → (length ws ≡ 1 → ⊥) → None ≡ only (flat_map finished (t.waits p ws))
not-one p [] e n = refl
not-one p (Ended a ∷ []) e n = absurd (n refl)
not-one p (Ended a ∷ Ended b ∷ ws) e n = refl
not-one p (Ended a ∷ Pending h k ∷ ws) e n = absurd (cc e)
not-one p (Pending h k ∷ ws) e n = absurd (cc e)

pub just-one : (p : P) (ws : List d.Waiting) (w : d.Waiting) (ms : _) → length ws ≡ 1 → w ≡ get_or ws 0 w → w ≡ Ended ms →
    Some (t.moves_of ms) ≡ only (flat_map finished (t.waits p ws))
just-one p [] w ms e f h = absurd (omega (arith, e))
just-one p (x ∷ y ∷ ws) w ms e f h = absurd (omega (arith, e))
just-one p (x ∷ []) w ms e f h = ap (λ v. only (flat_map finished (t.waits p (v ∷ [])))) (sym h ∙ f)

pub not-pending : (ws : List d.Waiting) (w : d.Waiting) (h : _) (k : Consumed) → length ws ≡ 1 → w ≡ get_or ws 0 w → w ≡ Pending h k →
    t.head_taken ws ≡ None → ⊥
not-pending [] w h k e f i n = absurd (omega (arith, e))
not-pending (x ∷ ws) w h k e f i n = let j : t.head_taken (Pending h k ∷ ws) ≡ None = subst (λ v. t.head_taken (v ∷ ws) ≡ None) (sym f ∙ i) n in cc

-- the threads that settling finds lead to what all lead to
pub leads-held : (gr : Grammar) → (pattern : Items) (argument : Forest) (p : P) (all : List t.Waits) (ws : List d.Waiting) (seen : List Seen) →
    Leads gr pattern p all ws seen [] → Held gr pattern argument p all → Held gr pattern argument p (t.waits p ws)
leads-held gr pattern argument p all ws seen (found, kept, covered, due) h =
    let k = subst (λ x. IsKept [] x (t.waits p ws)) due kept in
    record {
      same = sym (kept-at gr pattern all (t.waits p ws) k) ∙ h.same;
      here = kept-each (IsFrom (Sound gr pattern) (λ s. u.left (r.place_of s)) r.place_of u.left u.after_unit p) [] all (t.waits p ws) k h.here;
    }

-- ---- a thread that is alone

-- what waits after this state, with the moves that lead to it, leads to the only reading
pub record HeldAt (gr : Grammar) (pattern : Items) (argument : Forest) (ms : List r.Move) (s : r.State) : Type 0 where
  pub sound : IsSound pattern s
  pub held : Held gr pattern argument (r.place_of s) (map (prefixed ms) (settled_at gr s))

-- the first one is
pub start-at : (gr : Grammar) → (pattern : Items) (argument : Forest) (p : P) → has_empty_round pattern ≡ false → p ≡ u.place argument [] →
    HeldAt gr pattern argument [] (r.at pattern [] p)
start-at gr pattern argument p e i = record {
  sound = subst (λ x. IsSound pattern (r.at pattern [] x)) (sym i) (sound-start gr pattern argument e);
  held = start-held gr pattern argument p e i (map (prefixed []) (settled_at gr (r.at pattern [] p))) refl;
}

-- after a turn, the only one that waited is
pub turn-at : (gr : Grammar) → (pattern : Items) (argument : Forest) (p s : P) (ws : List d.Waiting) (h : Thread) (k : Consumed) → ws ≡ Pending h k ∷ [] →
    Turn gr pattern argument p s ws → HeldAt gr pattern argument (t.moves_of h.moves) (t.state_of h s)
turn-at gr pattern argument p s ws h k e n =
    let m = subst (Turn gr pattern argument p s) e n in
    record { sound = m.good.0; held = m.held (map (prefixed (t.moves_of h.moves)) (settled_at gr (t.state_of h s))) (sym (append-nil _)) }

one-takes : (b : Bool) → clash (b ∷ []) ≡ false
one-takes true = refl
one-takes false = refl

-- and each that is reached from it
pub follows-held : (gr : Grammar) → (pattern : Items) (argument : Forest) (ms : List r.Move) (s : r.State) (ns : List r.Move) (x : r.State) → Follows gr ms s ns x →
    HeldAt gr pattern argument ms s → HeldAt gr pattern argument ns x
follows-held gr pattern argument ms s _ _ stays h = h
follows-held gr pattern argument ms s _ _ (leads {ns} {ks} {t = x} {v} f l) h =
    let i = follows-held gr pattern argument ms s ns x f h in
    let g = l.0 (r.room pattern) i.sound.0 in
    record {
      sound = (g.0, l.1 pattern i.sound.1);
      held = subst (λ y. Held gr pattern argument y (map (prefixed ks) (settled_at gr v))) (sym l.2)
          (subst (Held gr pattern argument (r.place_of x)) g.1 i.held);
    }
follows-held gr pattern argument ms s _ _ (goes_on {ns} {ks} {t = x} {v} {b} f w) h =
    let i = follows-held gr pattern argument ms s ns x f h in
    let N = r.room pattern in
    let o = r.place_of x in
    let one : List t.Waits = pending ks b v ∷ [] in
    let j : Held gr pattern argument o one = subst (Held gr pattern argument o) (w N i.sound.0) i.held in
    let at = one_place-at gr pattern o one j.here (one-takes b) in
    let q = r.place_of v in
    let here : q ≡ at.0 = at.1.0.2 in
    let a : AllTo gr pattern (u.left o) q one = subst (λ y. AllTo gr pattern (u.left o) y one) (sym here) at.1 in
    let all : map (prefixed ks) (settled_at gr v) ≡ flat_map (advanced_by (settled_at gr)) one = sym (append-nil (map (prefixed ks) (settled_at gr v))) in
    record {
      sound = (waits-lower gr pattern ns ks x v b i.sound w).0;
      held = record {
        same = ap (outcome_at gr N) all ∙ sym (advance-at gr pattern (u.left o) q one a (one-takes b)) ∙ j.same;
        here = subst (AllFrom gr pattern q) (sym all) (from-advanced-at gr pattern (u.left o) q one a);
      };
    }

-- it is settled
pub alone-held : (gr : Grammar) → (pattern : Items) (argument : Forest) (p : P) (h : Thread) → HeldAt gr pattern argument (t.moves_of h.moves) (t.state_of h p) →
    (ws us : List d.Waiting) (seen xs : List Seen) → us ≡ [] → xs ≡ [] →
    ((all : List t.Waits) → Leads gr pattern p all us xs (GoOn (as_choice h) ∷ []) → Leads gr pattern p all ws seen []) →
    Held gr pattern argument p (t.waits p ws)
alone-held gr pattern argument p h i ws us seen xs a b f =
    let all = [] ++ map (prefixed (t.moves_of h.moves)) (settled_at gr (t.state_of h p)) in
    let l = more-due gr pattern p [] [] [] h i.sound (none-yet gr pattern p) in
    leads-held gr pattern argument p all ws seen
    (f all (subst (λ x. Leads gr pattern p all us x (GoOn (as_choice h) ∷ [])) (sym b) (subst (λ x. Leads gr pattern p all x [] (GoOn (as_choice h) ∷ [])) (sym a) l)))
    i.held

-- or it is the last
pub done-held : (gr : Grammar) → (pattern : Items) (argument : Forest) (ns : List r.Move) (x : r.State) (o : Option (List r.Move)) → HeldAt gr pattern argument ns x →
    ((N : ℕ) → Good N x → map (prefixed ns) (settled_at gr x) ≡ last_waits o) → o ≡ r.the_reading gr pattern argument
done-held gr pattern argument ns x o i e =
    go o (subst (Held gr pattern argument (r.place_of x)) (e (r.room pattern) i.sound.0) i.held)
  where
    go : (o : Option (List r.Move)) → Held gr pattern argument (r.place_of x) (last_waits o) → o ≡ r.the_reading gr pattern argument
    go None h = sym (over-at gr pattern [] refl) ∙ h.same
    go (Some ms) h = sym (over-at gr pattern (ended ms ∷ []) refl) ∙ h.same

-- ---- what it leads to

-- the first thread of all
pub begun-held : (gr : Grammar) → (pattern : Items) (argument : Forest) (p : P) (h : Thread) → has_empty_round pattern ≡ false → p ≡ u.place argument [] →
    t.moves_of h.moves ≡ [] → t.state_of h p ≡ r.at pattern [] p → HeldAt gr pattern argument (t.moves_of h.moves) (t.state_of h p)
begun-held gr pattern argument p h e i m s = rw (m, s) (start-at gr pattern argument p e i)

-- the reading is known
pub alone-done : (gr : Grammar) → (pattern : Items) (argument : Forest) (ms : List r.Move) (s : r.State) (p : P) (o : _) → HeldAt gr pattern argument ms s →
    LeadsAlone gr ms s p (Done o) → option_map t.moves_of o ≡ r.the_reading gr pattern argument
alone-done gr pattern argument ms s p o h (ns, x, f, e) =
    done-held gr pattern argument ns x (option_map t.moves_of o) (follows-held gr pattern argument ms s ns x f h) e

-- or the threads that were settled lead to it
pub alone-settled : (gr : Grammar) → (pattern : Items) (argument : Forest) (ms : List r.Move) (s : r.State) (p : P) (a : Alone) → HeldAt gr pattern argument ms s →
    LeadsAlone gr ms s p a → ((o : _) → a ≡ Done o → ⊥) → (ws us : List d.Waiting) (seen xs : List Seen) → us ≡ [] → xs ≡ [] →
    ((all : List t.Waits) (h : Thread) → Leads gr pattern p all us xs (GoOn (as_choice h) ∷ []) → a ≡ Open h → Leads gr pattern p all ws seen []) →
    Held gr pattern argument p (t.waits p ws)
alone-settled gr pattern argument ms s p (Done o) h l n ws us seen xs b c f = absurd (n o refl)
alone-settled gr pattern argument ms s p (Open v) h l n ws us seen xs b c f =
    alone-held gr pattern argument p v (follows-held gr pattern argument ms s (t.moves_of v.moves) (t.state_of v p) l h)
    ws us seen xs b c (λ all k. f all v k refl)

-- no more is left of the argument
pub alone-lower : (gr : Grammar) → (pattern : Items) (ms : List r.Move) (s : r.State) (p : P) (a : Alone) → IsSound pattern s →
    LeadsAlone gr ms s p a → ((o : _) → a ≡ Done o → ⊥) → u.left p ≤ u.left (r.place_of s)
alone-lower gr pattern ms s p (Done o) h l n = absurd (n o refl)
alone-lower gr pattern ms s p (Open v) h l n = (follows-sound gr pattern ms s (t.moves_of v.moves) (t.state_of v p) l h).1
