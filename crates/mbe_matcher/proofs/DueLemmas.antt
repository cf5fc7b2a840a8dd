-- What settling does, task by task: all paths will still be found.
use Rattle.std.proofs.Common.{◌≡◌, refl, sym, ap, subst, ◌∙◌, ◌&&◌, ◌||◌, Bool, true, false, List, [], ◌∷◌, ◌++◌, map, reverse, Option, Some, None, append_assoc, append-nil}
use Rattle.std.specs.List.{flat_map, list_any}
use Rattle.std.proofs.lemmas.List.{map-append, reverse-append}
use Rattle.std.proofs.lemmas.Grind.{flat_map-append}
use Rattle.mbe_rules.specs.Items.{Items}
use Rattle.mbe_matcher.specs.Blocked.{is_stuck}
use Rattle.mbe_matcher.specs.Grammar.{Grammar}
use Rattle.mbe_matcher.specs.Paths.{IsAmong}
use Rattle.mbe_matcher.specs.Places.{place_after}
use Rattle.mbe_matcher.specs.Positions.{IsIn}
use Rattle.mbe_matcher.specs.Readings as r
use Rattle.mbe_matcher.specs.Rounds.{WaitsAlone}
use Rattle.mbe_matcher.specs.Settled.{IsTwice, Stands, sorts, IsKept, planned, IsSound, IsSoundChoice, IsCovered, IsDue, Leads}
use Rattle.mbe_matcher.specs.Threads.{Made, Waits, waits, waiting_of, moves_of, contributes, extended, made_of, given, state_of, is_some_taken, is_trees, same_state}
use Rattle.mbe_matcher.specs.Units as u
use Rattle.mbe_matcher.specs.Waiting.{ended, prefixed, settled_at, Each}
use Rattle.mbe_matcher.specs.Ways.{IsWay, LeadsAs}
use Rattle.mbe_matcher.specs.declared.way.Way.TheVariants as way
use Rattle.mbe_matcher.specs.declared.step.Choice.{Choice}
use Rattle.mbe_matcher.specs.declared.same_state.Seen.{Seen}
use Rattle.mbe_matcher.specs.declared.matcher.SettleTask.{SettleTask}
use Rattle.mbe_matcher.specs.declared.matcher.SettleTask.TheVariants.{GoOn, Note}
use Rattle.mbe_matcher.specs.declared.step.Waiting as d
use Rattle.mbe_matcher.specs.declared.step.Waiting.TheVariants.{Ended, Pending}
use Rattle.mbe_matcher.specs.declared.position.Consumed.{Consumed}
use Rattle.mbe_matcher.specs.declared.thread.Thread.{Thread}
use Rattle.mbe_matcher.proofs.BlockedLemmas.{stuck-next}
use Rattle.mbe_matcher.proofs.KeptLemmas.{among-right, stands-left, stands-again, each-more, sorts-append, sorts-prefixed, kept-one, kept-none}
use Rattle.mbe_matcher.proofs.LikeLemmas.{one-state-of}
use Rattle.mbe_matcher.proofs.MoveLemmas.{does}
use Rattle.mbe_matcher.proofs.PositionLemmas.{stays-in}
use Rattle.mbe_matcher.proofs.SettlingLemmas.{settled-ended, settled-goes_on, from-map}

-- a thread as a choice that has taken nothing
abbrev pub as_choice : Thread → Choice
as_choice t = record { thread = t; taken = None }

on-top : {A : Type 0} (xs : List A) (x : A) → reverse (xs ++ (x ∷ [])) ≡ x ∷ reverse xs
on-top xs x = reverse-append xs (x ∷ [])

module _ (gr : Grammar) (pattern : Items) (p : u.Place) where
  covered-left : (found more : List Waits) (x : Seen) → IsCovered gr pattern p (sorts found) x → IsCovered gr pattern p (sorts (found ++ more)) x
  covered-left found more x h =
      (h.0, λ k a. subst (Stands x.twice k) (sym (sorts-append found more)) (stands-left x.twice k (sorts found) (sorts more) (h.1 k a)))

  all-covered : (found more : List Waits) (xs : List Seen) → Each (IsCovered gr pattern p (sorts found)) xs → Each (IsCovered gr pattern p (sorts (found ++ more))) xs
  all-covered found more xs h = each-more (IsCovered gr pattern p (sorts found)) (IsCovered gr pattern p (sorts (found ++ more))) xs (λ x k. covered-left found more x k) h

  waits-push : (ws : List d.Waiting) (w : d.Waiting) → waits p (ws ++ (w ∷ [])) ≡ waits p ws ++ (waiting_of p w ∷ [])
  waits-push ws w = map-append (waiting_of p) ws (w ∷ [])

  -- the next task is a choice
  record Next (all : List Waits) (ws : List d.Waiting) (seen : List Seen) (ts : List SettleTask) (c : Choice) : Type 0 where
    found : List Waits
    kept : IsKept [] found (waits p ws)
    covered : Each (IsCovered gr pattern p (sorts found)) seen
    sound : IsSoundChoice pattern p c
    due : IsDue gr pattern p (found ++ contributes gr (made_of p c)) (reverse ts) all

  next : (all : List Waits) (ws : List d.Waiting) (seen : List Seen) (ts : List SettleTask) (c : Choice) →
      Leads gr pattern p all ws seen (ts ++ (GoOn c ∷ [])) → Next all ws seen ts c
  next all ws seen ts c (found, kept, covered, due) =
      let k : IsSoundChoice pattern p c × IsDue gr pattern p (found ++ contributes gr (made_of p c)) (reverse ts) all =
      subst (λ x. IsDue gr pattern p found x all) (on-top ts (GoOn c)) due in
      record { found = found; kept = kept; covered = covered; sound = k.0; due = k.1 }

  -- one that takes something waits
  pub taken-waits : (all : List Waits) (ws : List d.Waiting) (seen : List Seen) (ts : List SettleTask) (c : Choice) (k : Consumed) → c.taken ≡ Some k →
      Leads gr pattern p all ws seen (ts ++ (GoOn c ∷ [])) → Leads gr pattern p all (ws ++ (Pending c.thread k ∷ [])) seen ts
  taken-waits all ws seen ts c k e h =
      let n = next all ws seen ts c h in
      let w = waiting_of p (Pending c.thread k) in
      let i : contributes gr (made_of p c) ≡ w ∷ [] =
      ap (λ o. contributes gr (moves_of c.thread.moves, is_some_taken o, is_trees o, state_of c.thread (place_after p o))) e in (
        n.found ++ (w ∷ []),
        subst (IsKept [] (n.found ++ (w ∷ []))) (sym (waits-push ws (Pending c.thread k))) (kept-one n.found (waits p ws) w n.kept),
        all-covered n.found (w ∷ []) seen n.covered,
        subst (λ x. IsDue gr pattern p (n.found ++ x) (reverse ts) all) i n.due,
      )

  -- one at the end waits
  pub ended-waits : (all : List Waits) (ws : List d.Waiting) (seen : List Seen) (ts : List SettleTask) (t : Thread) → true ≡ r.has_used_up (state_of t p) →
      Leads gr pattern p all ws seen (ts ++ (GoOn (as_choice t) ∷ [])) → Leads gr pattern p all (ws ++ (Ended t.moves ∷ [])) seen ts
  ended-waits all ws seen ts t e h =
      let n = next all ws seen ts (as_choice t) h in
      let s = n.sound refl in
      let w : Waits = ended (moves_of t.moves) in
      let i = settled-ended gr (moves_of t.moves) (state_of t p) (r.room pattern) s.0 (sym e) in (
        n.found ++ (w ∷ []),
        subst (IsKept [] (n.found ++ (w ∷ []))) (sym (waits-push ws (Ended t.moves))) (kept-one n.found (waits p ws) w n.kept),
        all-covered n.found (w ∷ []) seen n.covered,
        subst (λ x. IsDue gr pattern p (n.found ++ x) (reverse ts) all) i n.due,
      )

  -- one that waits alone after another waits
  pub alone-waits : (all : List Waits) (ws : List d.Waiting) (seen : List Seen) (ts : List SettleTask) (t : Thread) (w : d.Waiting) → WaitsAlone gr p t w →
      Leads gr pattern p all ws seen (ts ++ (GoOn (as_choice t) ∷ [])) → Leads gr pattern p all (ws ++ (w ∷ [])) seen ts
  alone-waits all ws seen ts t w e h =
      let n = next all ws seen ts (as_choice t) h in
      let s = n.sound refl in
      let i = e (r.room pattern) s.0 in (
        n.found ++ (waiting_of p w ∷ []),
        subst (IsKept [] (n.found ++ (waiting_of p w ∷ []))) (sym (waits-push ws w)) (kept-one n.found (waits p ws) (waiting_of p w) n.kept),
        all-covered n.found (waiting_of p w ∷ []) seen n.covered,
        subst (λ x. IsDue gr pattern p (n.found ++ x) (reverse ts) all) i n.due,
      )

  -- one that no thread waits after is left out
  pub stops-left : (all : List Waits) (ws : List d.Waiting) (seen : List Seen) (ts : List SettleTask) (t : Thread) → IsWay gr p t way.Stops →
      Leads gr pattern p all ws seen (ts ++ (GoOn (as_choice t) ∷ [])) → Leads gr pattern p all ws seen ts
  stops-left all ws seen ts t e h =
      let n = next all ws seen ts (as_choice t) h in
      let s = n.sound refl in
      let i = e (r.room pattern) s.0 in
      (n.found, n.kept, n.covered, subst (λ x. IsDue gr pattern p x (reverse ts) all) (ap (λ x. n.found ++ x) i ∙ append-nil n.found) n.due)

  -- one that leads to the same takes its turn
  pub same-way : (all : List Waits) (ws : List d.Waiting) (seen : List Seen) (ts : List SettleTask) (t v : Thread) →
      LeadsAs gr (moves_of t.moves) (state_of t p) (moves_of v.moves) (state_of v p) →
      Leads gr pattern p all ws seen (ts ++ (GoOn (as_choice t) ∷ [])) → Leads gr pattern p all ws seen (ts ++ (GoOn (as_choice v) ∷ []))
  same-way all ws seen ts t v l h =
      let n = next all ws seen ts (as_choice t) h in
      let s = n.sound refl in
      let i = l.0 (r.room pattern) s.0 in (
        n.found,
        n.kept,
        n.covered,
        subst (λ x. IsDue gr pattern p n.found x all) (sym (on-top ts (GoOn (as_choice v))))
            ((λ _. (i.0, l.1 pattern s.1)), subst (λ x. IsDue gr pattern p (n.found ++ x) (reverse ts) all) i.1 n.due),
      )

  -- a choice leads to a state of the pattern
  sound-choice : (ms : List r.Move) (s : r.State) (c : Choice) (xs ys : List Made) →
      xs ++ (made_of p c ∷ ys) ≡ map (extended ms) (r.next gr s) → IsSound pattern s → IsSoundChoice pattern p c
  sound-choice ms s c xs ys e g h = go c.taken h refl
    where
      go : (o : Option Consumed) → is_some_taken o ≡ false → o ≡ c.taken → IsSound pattern (state_of c.thread p)
      go (Some t) i k = absurd (cc i)
      go None i k =
          let d = from-map (extended ms) (made_of p c) xs ys (r.next gr s) e in
          let v : d.0.1 ≡ state_of c.thread p = ap (λ m. m.3) d.2 ∙ ap (λ o. state_of c.thread (place_after p o)) (sym k) in
          subst (IsSound pattern) v ((does gr (r.room pattern) s d.0 d.1).good g.0, stays-in pattern gr s d.0 g.1 d.1)

  due-choice : (found : List Waits) (o : Option Choice) (ts : List SettleTask) (all : List Waits) →
      ((c : Choice) → o ≡ Some c → IsSoundChoice pattern p c) →
      IsDue gr pattern p (found ++ flat_map (contributes gr) (given p o)) (reverse ts) all → IsDue gr pattern p found (reverse (ts ++ planned o)) all
  due-choice found None ts all s h =
      subst (λ x. IsDue gr pattern p found (reverse x) all) (sym (append-nil ts)) (subst (λ x. IsDue gr pattern p x (reverse ts) all) (append-nil found) h)
  due-choice found (Some c) ts all s h =
      subst (λ x. IsDue gr pattern p found x all) (sym (on-top ts (GoOn c)))
      (s c refl, subst (λ x. IsDue gr pattern p (found ++ x) (reverse ts) all) (append-nil (contributes gr (made_of p c))) h)

  -- any other goes on by its choices
  pub goes-on : (all : List Waits) (ws : List d.Waiting) (seen : List Seen) (ts : List SettleTask) (t : Thread) (first second : Option Choice) →
      false ≡ r.has_used_up (state_of t p) →
      given p first ++ given p second ≡ map (extended (moves_of t.moves)) (r.next gr (state_of t p)) →
      Leads gr pattern p all ws seen (ts ++ (GoOn (as_choice t) ∷ [])) → Leads gr pattern p all ws seen ((ts ++ planned second) ++ planned first)
  goes-on all ws seen ts t first second e m h =
      let n = next all ws seen ts (as_choice t) h in
      let s = n.sound refl in
      let ms = moves_of t.moves in
      let i = settled-goes_on gr ms (state_of t p) (r.room pattern) s.0 (sym e)
      ∙ ap (flat_map (contributes gr)) (sym m) ∙ flat_map-append (contributes gr) (given p first) (given p second) in
      let due = subst (λ x. IsDue gr pattern p x (reverse ts) all)
      (ap (λ x. n.found ++ x) i ∙ sym (append_assoc n.found (flat_map (contributes gr) (given p first)) (flat_map (contributes gr) (given p second)))) n.due in (
        n.found,
        n.kept,
        n.covered,
        due-choice n.found first (ts ++ planned second) all
            (λ c f. sound-choice ms (state_of t p) c [] (given p second) (ap (λ o. given p o ++ given p second) (sym f) ∙ m) s)
            (due-choice (n.found ++ flat_map (contributes gr) (given p first)) second ts all
            (λ c f. sound-choice ms (state_of t p) c (given p first) [] (ap (λ o. given p first ++ given p o) (sym f) ∙ m) s)
            due),
      )

  -- one that no move leads from is left out
  pub stuck-left : (all : List Waits) (ws : List d.Waiting) (seen : List Seen) (ts : List SettleTask) (t : Thread) → true ≡ is_stuck (state_of t p) →
      Leads gr pattern p all ws seen (ts ++ (GoOn (as_choice t) ∷ [])) → Leads gr pattern p all ws seen ts
  stuck-left all ws seen ts t e h =
      let n = next all ws seen ts (as_choice t) h in
      let s = n.sound refl in
      let k = stuck-next gr (state_of t p) (sym e) in
      let i = settled-goes_on gr (moves_of t.moves) (state_of t p) (r.room pattern) s.0 k.1 ∙ ap (λ cs. flat_map (contributes gr) (map (extended (moves_of t.moves)) cs)) k.0 in
      (n.found, n.kept, n.covered, subst (λ x. IsDue gr pattern p x (reverse ts) all) (ap (λ x. n.found ++ x) i ∙ append-nil n.found) n.due)

  -- ---- states that were settled

  seen-twice : (t : Thread) (found : List Waits) (xs : List Seen) → IsIn pattern (state_of t p) → Each (IsCovered gr pattern p (sorts found)) xs →
      list_any (λ x. x.twice && same_state x.thread t) xs ≡ true →
      (k : Option (Bool × r.State)) → IsAmong k (sorts (settled_at gr (state_of t p))) → IsTwice k (sorts found)
  seen-twice t found [] i h e = absurd (cc e)
  seen-twice t found (x ∷ xs) i h e = go (seen-twice t found xs i h.1) x.twice (same_state x.thread t) refl refl e
    where
      go : (list_any (λ x. x.twice && same_state x.thread t) xs ≡ true →
          (k : Option (Bool × r.State)) → IsAmong k (sorts (settled_at gr (state_of t p))) → IsTwice k (sorts found)) →
          (a b : Bool) → x.twice ≡ a → same_state x.thread t ≡ b → ((a && b) || list_any (λ x. x.twice && same_state x.thread t) xs) ≡ true →
          (k : Option (Bool × r.State)) → IsAmong k (sorts (settled_at gr (state_of t p))) → IsTwice k (sorts found)
      go rec true true f j y = λ k a.
          let s = one-state-of pattern p x.thread t h.0.0 i j in
          subst (λ b. Stands b k (sorts found)) f (h.0.1 k (subst (λ z. IsAmong k (sorts (settled_at gr z))) (sym s) a))
      go rec true false f j y = rec y
      go rec false b f j y = rec y

  seen-once : (t : Thread) (found more : List Waits) (xs : List Seen) → IsIn pattern (state_of t p) → Each (IsCovered gr pattern p (sorts found)) xs →
      list_any (λ x. same_state x.thread t) xs ≡ true → sorts more ≡ sorts (settled_at gr (state_of t p)) →
      (k : Option (Bool × r.State)) → IsAmong k (sorts (settled_at gr (state_of t p))) → Stands true k (sorts (found ++ more))
  seen-once t found more [] i h e m = absurd (cc e)
  seen-once t found more (x ∷ xs) i h e m = go (λ y. seen-once t found more xs i h.1 y m) (same_state x.thread t) refl e
    where
      go : (list_any (λ x. same_state x.thread t) xs ≡ true →
          (k : Option (Bool × r.State)) → IsAmong k (sorts (settled_at gr (state_of t p))) → Stands true k (sorts (found ++ more))) →
          (b : Bool) → same_state x.thread t ≡ b → (b || list_any (λ x. same_state x.thread t) xs) ≡ true →
          (k : Option (Bool × r.State)) → IsAmong k (sorts (settled_at gr (state_of t p))) → Stands true k (sorts (found ++ more))
      go rec true j y = λ k a.
          let s = one-state-of pattern p x.thread t h.0.0 i j in
          subst (Stands true k) (sym (sorts-append found more))
          (stands-again x.twice k (sorts found) (sorts more) (h.0.1 k (subst (λ z. IsAmong k (sorts (settled_at gr z))) (sym s) a)) (subst (IsAmong k) (sym m) a))
      go rec false j y = rec y

  -- where two were settled in its state, one more changes nothing
  pub few-left : (all : List Waits) (ws : List d.Waiting) (seen : List Seen) (ts : List SettleTask) (t : Thread) →
      true ≡ list_any (λ x. x.twice && same_state x.thread t) seen →
      Leads gr pattern p all ws seen (ts ++ (GoOn (as_choice t) ∷ [])) → Leads gr pattern p all ws seen ts
  few-left all ws seen ts t e h =
      let n = next all ws seen ts (as_choice t) h in
      let s = n.sound refl in
      let more = map (prefixed (moves_of t.moves)) (settled_at gr (state_of t p)) in (
        n.found ++ more,
        kept-none n.found (waits p ws) more n.kept
            (λ k a. seen-twice t n.found seen s.1 n.covered (sym e) k (subst (IsAmong k) (sorts-prefixed (moves_of t.moves) (settled_at gr (state_of t p))) a)),
        all-covered n.found more seen n.covered,
        n.due,
      )

  -- else it is noted once all that comes of it waits
  pub few-noted : (all : List Waits) (ws : List d.Waiting) (seen : List Seen) (ts : List SettleTask) (t : Thread) (again : Bool) →
      again ≡ list_any (λ x. same_state x.thread t) seen →
      Leads gr pattern p all ws seen (ts ++ (GoOn (as_choice t) ∷ [])) →
      Leads gr pattern p all ws seen ((ts ++ (Note (record { thread = t; twice = again }) ∷ [])) ++ (GoOn (as_choice t) ∷ []))
  few-noted all ws seen ts t again e h =
      let n = next all ws seen ts (as_choice t) h in
      let s = n.sound refl in
      let more = map (prefixed (moves_of t.moves)) (settled_at gr (state_of t p)) in
      let same = sorts-prefixed (moves_of t.moves) (settled_at gr (state_of t p)) in
      let x : Seen = record { thread = t; twice = again } in (
        n.found,
        n.kept,
        n.covered,
        subst (λ y. IsDue gr pattern p n.found y all) (sym (on-top (ts ++ (Note x ∷ [])) (GoOn (as_choice t)) ∙ ap (λ y. GoOn (as_choice t) ∷ y) (on-top ts (Note x))))
            (n.sound, ((s.1, noted again e n.found more s.1 n.covered same), n.due)),
      )
    where
      noted : (b : Bool) → b ≡ list_any (λ x. same_state x.thread t) seen → (found more : List Waits) → IsIn pattern (state_of t p) →
          Each (IsCovered gr pattern p (sorts found)) seen → sorts more ≡ sorts (settled_at gr (state_of t p)) →
          (k : Option (Bool × r.State)) → IsAmong k (sorts (settled_at gr (state_of t p))) → Stands b k (sorts (found ++ more))
      noted true e found more i c m k a = seen-once t found more seen i c (sym e) m k a
      noted false e found more i c m k a =
          subst (IsAmong k) (sym (sorts-append found more))
          (among-right k (sorts found) (sorts more) (subst (IsAmong k) (sym m) a))

  -- a note
  pub note-seen : (all : List Waits) (ws : List d.Waiting) (seen : List Seen) (ts : List SettleTask) (x : Seen) →
      Leads gr pattern p all ws seen (ts ++ (Note x ∷ [])) → Leads gr pattern p all ws (seen ++ (x ∷ [])) ts
  note-seen all ws seen ts x (found, kept, covered, due) =
      let k : IsCovered gr pattern p (sorts found) x × IsDue gr pattern p found (reverse ts) all =
      subst (λ y. IsDue gr pattern p found y all) (on-top ts (Note x)) due in
      (found, kept, each-push (IsCovered gr pattern p (sorts found)) seen x covered k.0, k.1)
    where
      each-push : (Q : Seen → Type 0) (xs : List Seen) (x : Seen) → Each Q xs → Q x → Each Q (xs ++ (x ∷ []))
      each-push Q [] x h q = (q, tt)
      each-push Q (y ∷ xs) x h q = (h.0, each-push Q xs x h.1 q)

  -- ---- the threads that wait next

  pub more-due : (all : List Waits) (ws : List d.Waiting) (seen : List Seen) (t : Thread) → IsSound pattern (state_of t p) →
      Leads gr pattern p all ws seen [] →
      Leads gr pattern p (all ++ map (prefixed (moves_of t.moves)) (settled_at gr (state_of t p))) ws seen ([] ++ (GoOn (as_choice t) ∷ []))
  more-due all ws seen t s (found, kept, covered, due) =
      (found, kept, covered, (λ _. s, ap (λ x. x ++ map (prefixed (moves_of t.moves)) (settled_at gr (state_of t p))) due))

  pub more-ended : (all : List Waits) (ws : List d.Waiting) (seen : List Seen) (ms : _) →
      Leads gr pattern p all ws seen [] → Leads gr pattern p (all ++ (ended (moves_of ms) ∷ [])) (ws ++ (Ended ms ∷ [])) seen []
  more-ended all ws seen ms (found, kept, covered, due) =
      let w : Waits = ended (moves_of ms) in (
        found ++ (w ∷ []),
        subst (IsKept [] (found ++ (w ∷ []))) (sym (waits-push ws (Ended ms))) (kept-one found (waits p ws) w kept),
        all-covered found (w ∷ []) seen covered,
        ap (λ x. x ++ (w ∷ [])) due,
      )

  pub none-yet : Leads gr pattern p [] [] [] []
  none-yet = ([], refl, tt, refl)

  pub same-leads : (all : List Waits) (ws us : List d.Waiting) (seen xs : List Seen) (ts ss : List SettleTask) → us ≡ ws → xs ≡ seen → ss ≡ ts →
      Leads gr pattern p all ws seen ts → Leads gr pattern p all us xs ss
  same-leads all ws us seen xs ts ss e f k h =
      subst (λ z. Leads gr pattern p all us xs z) (sym k) (subst (λ y. Leads gr pattern p all us y ts) (sym f) (subst (λ x. Leads gr pattern p all x seen ts) (sym e) h))
