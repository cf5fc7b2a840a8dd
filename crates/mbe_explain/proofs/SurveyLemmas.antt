-- What each step of a survey does: all paths will still be found.
use Rattle.std.proofs.Common.{◌≡◌, refl, sym, ap, subst, ◌∙◌, ◌&&◌, ◌||◌, Bool, true, false, List, [], ◌∷◌, ◌++◌, map, option_map, reverse, Option, Some, None, append_assoc, append-nil}
use Rattle.std.specs.List.{flat_map, list_any}
use Rattle.std.proofs.lemmas.List.{map-append, reverse-append}
use Rattle.std.proofs.lemmas.Grind.{flat_map-append}
use Rattle.mbe_rules.specs.Items.{Items}
use Rattle.mbe_matcher.specs.Grammar.{Grammar}
use Rattle.mbe_matcher.specs.Paths.{IsAmong}
use Rattle.mbe_matcher.specs.Places.{place_after}
use Rattle.mbe_matcher.specs.Positions.{IsIn}
use Rattle.mbe_matcher.specs.Readings as r
use Rattle.mbe_matcher.specs.Settled.{IsCovered, IsGood, IsKept, IsSound, IsSoundAt, IsSoundChoice, IsTwice, Stands, sorts}
use Rattle.mbe_matcher.specs.Threads.{Made, Waits, contributes, extended, given, is_some_taken, is_trees, made_of, moves_of, same_state, state_of}
use Rattle.mbe_matcher.specs.Units as u
use Rattle.mbe_matcher.specs.Waiting.{Each, advanced_by, ended, prefixed, settled_at}
use Rattle.mbe_matcher.specs.declared.position.Consumed.{Consumed}
use Rattle.mbe_matcher.specs.declared.same_state.Seen.{Seen}
use Rattle.mbe_matcher.specs.declared.step.Choice.{Choice}
use Rattle.mbe_matcher.proofs.KeptLemmas.{among-right, each-more, kept-none, kept-one, sorts-append, sorts-prefixed, stands-again, stands-left}
use Rattle.mbe_matcher.proofs.LikeLemmas.{one-state-of}
use Rattle.mbe_matcher.proofs.MoveLemmas.{does}
use Rattle.mbe_matcher.proofs.PositionLemmas.{stays-in}
use Rattle.mbe_matcher.proofs.SettlingLemmas.{from-map, settled-ended, settled-goes_on}
use Rattle.mbe_explain.specs.Surveys.{IsDue, Leads, choice_of, comes_by, comes_if, planned, waits_by, waits_if, waits_of}
use Rattle.mbe_explain.specs.declared.step.Step.{Step}
use Rattle.mbe_explain.specs.declared.survey.Task.{Task}
use Rattle.mbe_explain.specs.declared.survey.Task.TheVariants.{GoOn, Note}

last-first : {A : Type 0} (xs : List A) (x : A) → reverse (xs ++ (x ∷ [])) ≡ x ∷ reverse xs
last-first xs x = reverse-append xs (x ∷ [])

each-push : (Q : Seen → Type 0) (xs : List Seen) (x : Seen) → Each Q xs → Q x → Each Q (xs ++ (x ∷ []))
each-push Q [] x h q = (q, tt)
each-push Q (y ∷ xs) x h q = (h.0, each-push Q xs x h.1 q)

module _ (gr : Grammar) (pattern : Items) (p : u.Place) where
  covered-more : (found more : List Waits) (xs : List Seen) → Each (IsCovered gr pattern p (sorts found)) xs → Each (IsCovered gr pattern p (sorts (found ++ more))) xs
  covered-more found more xs h =
      each-more (IsCovered gr pattern p (sorts found)) (IsCovered gr pattern p (sorts (found ++ more))) xs
      (λ x k. (k.0, λ j a. subst (Stands x.twice j) (sym (sorts-append found more)) (stands-left x.twice j (sorts found) (sorts more) (k.1 j a)))) h

  -- the next task is to go on with a step
  record Next (all : List Waits) (ws : List Waits) (seen : List Seen) (ts : List Task) (s : Step) : Type 0 where
    found : List Waits
    kept : IsKept [] found ws
    covered : Each (IsCovered gr pattern p (sorts found)) seen
    sound : IsSoundChoice pattern p (choice_of s)
    due : IsDue gr pattern p (found ++ contributes gr (made_of p (choice_of s))) (reverse ts) all

  next : (all ws : List Waits) (seen : List Seen) (ts : List Task) (s : Step) → Leads gr pattern p all ws seen (ts ++ (GoOn s ∷ [])) → Next all ws seen ts s
  next all ws seen ts s (found, kept, covered, due) =
      let k : IsSoundChoice pattern p (choice_of s) × IsDue gr pattern p (found ++ contributes gr (made_of p (choice_of s))) (reverse ts) all =
      subst (λ x. IsDue gr pattern p found x all) (last-first ts (GoOn s)) due in
      record { found = found; kept = kept; covered = covered; sound = k.0; due = k.1 }

  -- it leads to one path, which waits
  one-waits : (all ws : List Waits) (seen : List Seen) (ts : List Task) (s : Step) (w : Waits) (n : Next all ws seen ts s) →
      contributes gr (made_of p (choice_of s)) ≡ w ∷ [] → Leads gr pattern p all (ws ++ (w ∷ [])) seen ts
  one-waits all ws seen ts s w n e = (
    n.found ++ (w ∷ []),
    kept-one n.found ws w n.kept,
    covered-more n.found (w ∷ []) seen n.covered,
    subst (λ x. IsDue gr pattern p (n.found ++ x) (reverse ts) all) e n.due,
  )

  waits-push : (ss us : List Step) (s : Step) → us ≡ ss ++ (s ∷ []) → waits_of p us ≡ waits_of p ss ++ (waits_by p s ∷ [])
  waits-push ss us s e = ap (waits_of p) e ∙ map-append (waits_by p) ss (s ∷ [])

  -- a step that has consumed something waits
  pub taken-waits : (all : List Waits) (ss us : List Step) (s : Step) (k : Consumed) (seen : List Seen) (ts : List Task) → us ≡ ss ++ (s ∷ []) → s.taken ≡ Some k →
      Leads gr pattern p all (waits_of p ss) seen (ts ++ (GoOn s ∷ [])) → Leads gr pattern p all (waits_of p us) seen ts
  taken-waits all ss us s k seen ts e i h =
      let t = s.thread in
      subst (λ x. Leads gr pattern p all x seen ts) (sym (waits-push ss us s e))
      (one-waits all (waits_of p ss) seen ts s (waits_by p s) (next all (waits_of p ss) seen ts s h)
      (ap (λ o. contributes gr (moves_of t.moves, is_some_taken o, is_trees o, state_of t (place_after p o))) i
      ∙ ap (λ o. waits_if t p o ∷ []) (sym i)))

  -- what a step leads to whose last move consumed nothing
  contributed : (s : Step) → s.taken ≡ None → contributes gr (made_of p (choice_of s)) ≡ map (prefixed (moves_of s.thread.moves)) (settled_at gr (state_of s.thread p))
  contributed s i =
      let t = s.thread in
      ap (λ o. contributes gr (moves_of t.moves, is_some_taken o, is_trees o, state_of t (place_after p o))) i

  sound-now : (s : Step) → s.taken ≡ None → IsSoundChoice pattern p (choice_of s) → IsSound pattern (state_of s.thread p)
  sound-now s i h = h (ap is_some_taken i)

  -- one that is at the end waits
  pub end-waits : (all : List Waits) (ss us : List Step) (s v : Step) (seen : List Seen) (ts : List Task) → us ≡ ss ++ (v ∷ []) → s.taken ≡ None →
      choice_of v ≡ record { thread = s.thread; taken = None } → true ≡ r.has_used_up (state_of s.thread p) →
      Leads gr pattern p all (waits_of p ss) seen (ts ++ (GoOn s ∷ [])) → Leads gr pattern p all (waits_of p us) seen ts
  end-waits all ss us s v seen ts e i c u h =
      let n = next all (waits_of p ss) seen ts s h in
      let sound = sound-now s i n.sound in
      let w : waits_by p v ≡ ended (moves_of s.thread.moves) = ap (λ (x : Choice). waits_if x.thread p x.taken) c in
      subst (λ x. Leads gr pattern p all x seen ts) (sym (waits-push ss us v e ∙ ap (λ x. waits_of p ss ++ (x ∷ [])) w))
      (one-waits all (waits_of p ss) seen ts s (ended (moves_of s.thread.moves)) n
      (contributed s i ∙ settled-ended gr (moves_of s.thread.moves) (state_of s.thread p) (r.room pattern) sound.0 (sym u)))

  -- a choice leads to a state of the matcher
  sound-choice : (ms : List r.Move) (x : r.State) (c : Choice) (xs ys : List Made) → xs ++ (made_of p c ∷ ys) ≡ map (extended ms) (r.next gr x) → IsSound pattern x →
      IsSoundChoice pattern p c
  sound-choice ms x c xs ys e g h = go c.taken h refl
    where
      go : (o : Option Consumed) → is_some_taken o ≡ false → o ≡ c.taken → IsSound pattern (state_of c.thread p)
      go (Some t) i k = absurd (cc i)
      go None i k =
          let d = from-map (extended ms) (made_of p c) xs ys (r.next gr x) e in
          let v : d.0.1 ≡ state_of c.thread p = ap (λ m. m.3) d.2 ∙ ap (λ o. state_of c.thread (place_after p o)) (sym k) in
          subst (IsSound pattern) v ((does gr (r.room pattern) x d.0 d.1).good g.0, stays-in pattern gr x d.0 g.1 d.1)

  due-step : (found : List Waits) (o : Option Step) (ts : List Task) (all : List Waits) → ((s : Step) → o ≡ Some s → IsSoundChoice pattern p (choice_of s)) →
      IsDue gr pattern p (found ++ flat_map (contributes gr) (given p (option_map choice_of o))) (reverse ts) all → IsDue gr pattern p found (reverse (ts ++ planned o)) all
  due-step found None ts all s h =
      subst (λ x. IsDue gr pattern p found (reverse x) all) (sym (append-nil ts)) (subst (λ x. IsDue gr pattern p x (reverse ts) all) (append-nil found) h)
  due-step found (Some v) ts all s h =
      subst (λ x. IsDue gr pattern p found x all) (sym (last-first ts (GoOn v)))
      (s v refl, subst (λ x. IsDue gr pattern p (found ++ x) (reverse ts) all) (append-nil (contributes gr (made_of p (choice_of v)))) h)

  -- any other goes on by its next moves
  pub goes-on : (all : List Waits) (ss : List Step) (seen : List Seen) (ts : List Task) (s : Step) (first second : Option Step) → s.taken ≡ None →
      false ≡ r.has_used_up (state_of s.thread p) →
      given p (option_map choice_of first) ++ given p (option_map choice_of second) ≡ map (extended (moves_of s.thread.moves)) (r.next gr (state_of s.thread p)) →
      Leads gr pattern p all (waits_of p ss) seen (ts ++ (GoOn s ∷ [])) → Leads gr pattern p all (waits_of p ss) seen ((ts ++ planned second) ++ planned first)
  goes-on all ss seen ts s first second i e m h =
      let n = next all (waits_of p ss) seen ts s h in
      let sound = sound-now s i n.sound in
      let ms = moves_of s.thread.moves in
      let x = state_of s.thread p in
      let one = given p (option_map choice_of first) in
      let other = given p (option_map choice_of second) in
      let j = contributed s i ∙ settled-goes_on gr ms x (r.room pattern) sound.0 (sym e)
      ∙ ap (flat_map (contributes gr)) (sym m) ∙ flat_map-append (contributes gr) one other in
      let due = subst (λ x. IsDue gr pattern p x (reverse ts) all)
      (ap (λ x. n.found ++ x) j ∙ sym (append_assoc n.found (flat_map (contributes gr) one) (flat_map (contributes gr) other))) n.due in (
        n.found,
        n.kept,
        n.covered,
        due-step n.found first (ts ++ planned second) all
            (λ v f. sound-choice ms x (choice_of v) [] other (ap (λ o. given p (option_map choice_of o) ++ other) (sym f) ∙ m) sound)
            (due-step (n.found ++ flat_map (contributes gr) one) second ts all
            (λ v f. sound-choice ms x (choice_of v) one [] (ap (λ o. one ++ given p (option_map choice_of o)) (sym f) ∙ m) sound)
            due),
      )

  -- ---- states that were entered

  entered-twice : (s : Step) (found : List Waits) (xs : List Seen) → IsIn pattern (state_of s.thread p) → Each (IsCovered gr pattern p (sorts found)) xs →
      list_any (λ x. x.twice && same_state x.thread s.thread) xs ≡ true →
      (k : Option (Bool × r.State)) → IsAmong k (sorts (settled_at gr (state_of s.thread p))) → IsTwice k (sorts found)
  entered-twice s found [] i h e = absurd (cc e)
  entered-twice s found (x ∷ xs) i h e = go (entered-twice s found xs i h.1) x.twice (same_state x.thread s.thread) refl refl e
    where
      go : (list_any (λ x. x.twice && same_state x.thread s.thread) xs ≡ true →
          (k : Option (Bool × r.State)) → IsAmong k (sorts (settled_at gr (state_of s.thread p))) → IsTwice k (sorts found)) →
          (a b : Bool) → x.twice ≡ a → same_state x.thread s.thread ≡ b → ((a && b) || list_any (λ x. x.twice && same_state x.thread s.thread) xs) ≡ true →
          (k : Option (Bool × r.State)) → IsAmong k (sorts (settled_at gr (state_of s.thread p))) → IsTwice k (sorts found)
      go rec true true f j y = λ k a.
          let same = one-state-of pattern p x.thread s.thread h.0.0 i j in
          subst (λ b. Stands b k (sorts found)) f (h.0.1 k (subst (λ z. IsAmong k (sorts (settled_at gr z))) (sym same) a))
      go rec true false f j y = rec y
      go rec false b f j y = rec y

  entered-again : (s : Step) (found more : List Waits) (xs : List Seen) → IsIn pattern (state_of s.thread p) → Each (IsCovered gr pattern p (sorts found)) xs →
      list_any (λ x. same_state x.thread s.thread) xs ≡ true → sorts more ≡ sorts (settled_at gr (state_of s.thread p)) →
      (k : Option (Bool × r.State)) → IsAmong k (sorts (settled_at gr (state_of s.thread p))) → Stands true k (sorts (found ++ more))
  entered-again s found more [] i h e m = absurd (cc e)
  entered-again s found more (x ∷ xs) i h e m = go (λ y. entered-again s found more xs i h.1 y m) (same_state x.thread s.thread) refl e
    where
      go : (list_any (λ x. same_state x.thread s.thread) xs ≡ true →
          (k : Option (Bool × r.State)) → IsAmong k (sorts (settled_at gr (state_of s.thread p))) → Stands true k (sorts (found ++ more))) →
          (b : Bool) → same_state x.thread s.thread ≡ b → (b || list_any (λ x. same_state x.thread s.thread) xs) ≡ true →
          (k : Option (Bool × r.State)) → IsAmong k (sorts (settled_at gr (state_of s.thread p))) → Stands true k (sorts (found ++ more))
      go rec true j y = λ k a.
          let same = one-state-of pattern p x.thread s.thread h.0.0 i j in
          subst (Stands true k) (sym (sorts-append found more))
          (stands-again x.twice k (sorts found) (sorts more) (h.0.1 k (subst (λ z. IsAmong k (sorts (settled_at gr z))) (sym same) a)) (subst (IsAmong k) (sym m) a))
      go rec false j y = rec y

  -- where two were in its state, one more changes nothing
  pub third-left : (all ws : List Waits) (seen : List Seen) (ts : List Task) (s : Step) → s.taken ≡ None →
      true ≡ list_any (λ x. x.twice && same_state x.thread s.thread) seen →
      Leads gr pattern p all ws seen (ts ++ (GoOn s ∷ [])) → Leads gr pattern p all ws seen ts
  third-left all ws seen ts s i e h =
      let n = next all ws seen ts s h in
      let sound = sound-now s i n.sound in
      let ms = moves_of s.thread.moves in
      let more = map (prefixed ms) (settled_at gr (state_of s.thread p)) in (
        n.found ++ more,
        kept-none n.found ws more n.kept
            (λ k a. entered-twice s n.found seen sound.1 n.covered (sym e) k (subst (IsAmong k) (sorts-prefixed ms (settled_at gr (state_of s.thread p))) a)),
        covered-more n.found more seen n.covered,
        subst (λ x. IsDue gr pattern p (n.found ++ x) (reverse ts) all) (contributed s i) n.due,
      )

  -- else it is noted once all that comes of it waits
  pub is-noted : (all ws : List Waits) (seen : List Seen) (ts : List Task) (s : Step) (again : Bool) → s.taken ≡ None →
      again ≡ list_any (λ x. same_state x.thread s.thread) seen → Leads gr pattern p all ws seen (ts ++ (GoOn s ∷ [])) →
      Leads gr pattern p all ws seen ((ts ++ (Note (record { thread = s.thread; twice = again }) ∷ [])) ++ (GoOn s ∷ []))
  is-noted all ws seen ts s again i e h =
      let n = next all ws seen ts s h in
      let sound = sound-now s i n.sound in
      let more = contributes gr (made_of p (choice_of s)) in
      let same = ap sorts (contributed s i) ∙ sorts-prefixed (moves_of s.thread.moves) (settled_at gr (state_of s.thread p)) in
      let x : Seen = record { thread = s.thread; twice = again } in (
        n.found,
        n.kept,
        n.covered,
        subst (λ y. IsDue gr pattern p n.found y all) (sym (last-first (ts ++ (Note x ∷ [])) (GoOn s) ∙ ap (λ y. GoOn s ∷ y) (last-first ts (Note x))))
            (n.sound, ((sound.1, noted again e n.found more sound.1 n.covered same), n.due)),
      )
    where
      noted : (b : Bool) → b ≡ list_any (λ x. same_state x.thread s.thread) seen → (found more : List Waits) → IsIn pattern (state_of s.thread p) →
          Each (IsCovered gr pattern p (sorts found)) seen → sorts more ≡ sorts (settled_at gr (state_of s.thread p)) →
          (k : Option (Bool × r.State)) → IsAmong k (sorts (settled_at gr (state_of s.thread p))) → Stands b k (sorts (found ++ more))
      noted true e found more i c m k a = entered-again s found more seen i c (sym e) m k a
      noted false e found more i c m k a =
          subst (IsAmong k) (sym (sorts-append found more)) (among-right k (sorts found) (sorts more) (subst (IsAmong k) (sym m) a))

  -- a note
  pub note-seen : (all ws : List Waits) (seen xs : List Seen) (ts : List Task) (x : Seen) → xs ≡ seen ++ (x ∷ []) → Leads gr pattern p all ws seen (ts ++ (Note x ∷ [])) →
      Leads gr pattern p all ws xs ts
  note-seen all ws seen xs ts x e (found, kept, covered, due) =
      let k : IsCovered gr pattern p (sorts found) x × IsDue gr pattern p found (reverse ts) all =
      subst (λ y. IsDue gr pattern p found y all) (last-first ts (Note x)) due in
      (found, kept, subst (Each (IsCovered gr pattern p (sorts found))) (sym e) (each-push (IsCovered gr pattern p (sorts found)) seen x covered k.0), k.1)

  -- the same waits, was entered and is left
  pub same-leads : (all : List Waits) (ss us : List Step) (seen xs : List Seen) (ts vs : List Task) → us ≡ ss → xs ≡ seen → vs ≡ ts →
      Leads gr pattern p all (waits_of p ss) seen ts → Leads gr pattern p all (waits_of p us) xs vs
  same-leads all ss us seen xs ts vs e f k h =
      subst (λ z. Leads gr pattern p all (waits_of p us) xs z) (sym k)
      (subst (λ y. Leads gr pattern p all (waits_of p us) y ts) (sym f) (subst (λ x. Leads gr pattern p all (waits_of p x) seen ts) (sym e) h))

  -- ---- steps that come to a position

  pub none-yet : Leads gr pattern p [] [] [] []
  none-yet = ([], refl, tt, refl)

  -- one that had ended still waits
  pub still-waits : (all : List Waits) (ss us : List Step) (s : Step) (seen : List Seen) → us ≡ ss ++ (s ∷ []) → s.taken ≡ None →
      Leads gr pattern p all (waits_of p ss) seen [] → Leads gr pattern p (all ++ advanced_by (settled_at gr) (comes_by p s)) (waits_of p us) seen []
  still-waits all ss us s seen e i (found, kept, covered, due) =
      let w : Waits = ended (moves_of s.thread.moves) in
      let same : waits_by p s ≡ w = ap (waits_if s.thread p) i in
      let more : advanced_by (settled_at gr) (comes_by p s) ≡ w ∷ [] = ap (λ o. advanced_by (settled_at gr) (comes_if s.thread p o)) i in (
        found ++ (w ∷ []),
        subst (IsKept [] (found ++ (w ∷ []))) (sym (waits-push ss us s e ∙ ap (λ x. waits_of p ss ++ (x ∷ [])) same)) (kept-one found (waits_of p ss) w kept),
        covered-more found (w ∷ []) seen covered,
        ap (λ x. x ++ (w ∷ [])) due ∙ ap (λ x. all ++ x) (sym more),
      )

  -- one that has come is to go on
  pub comes : (all ws : List Waits) (s v : Step) (k : Consumed) (seen : List Seen) → s.taken ≡ Some k → choice_of v ≡ record { thread = s.thread; taken = None } →
      IsSoundAt pattern (comes_by p s) → Leads gr pattern p all ws seen [] → Leads gr pattern p (all ++ advanced_by (settled_at gr) (comes_by p s)) ws seen (GoOn v ∷ [])
  comes all ws s v k seen i c sound (found, kept, covered, due) =
      let t = s.thread in
      let more : advanced_by (settled_at gr) (comes_by p s) ≡ map (prefixed (moves_of t.moves)) (settled_at gr (state_of t p)) =
      ap (λ o. advanced_by (settled_at gr) (comes_if t p o)) i in
      let now : IsSound pattern (state_of t p) = subst (λ o. IsSoundAt pattern (comes_if t p o)) i sound in (
        found,
        kept,
        covered,
        (
          subst (λ x. IsSoundChoice pattern p x) (sym c) (λ _. now),
          ap (λ x. found ++ contributes gr (made_of p x)) c ∙ ap (λ x. x ++ map (prefixed (moves_of t.moves)) (settled_at gr (state_of t p))) due ∙ ap (λ x. all ++ x) (sym more),
        ),
      )

-- one that has come is in a good state
pub good-now : (pattern : Items) (p : u.Place) (s v : Step) (k : Consumed) → s.taken ≡ Some k → choice_of v ≡ record { thread = s.thread; taken = None } →
    IsSoundAt pattern (comes_by p s) → IsGood (state_of v.thread p)
good-now pattern p s v k i c sound =
    let now : IsSound pattern (state_of s.thread p) = subst (λ o. IsSoundAt pattern (comes_if s.thread p o)) i sound in
    subst (λ (x : Choice). IsGood (state_of x.thread p)) (sym c) (r.room pattern, now.0)
