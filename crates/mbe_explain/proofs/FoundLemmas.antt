-- What a stop shows, by its kind.
use Rattle.std.proofs.Common.{◌≡◌, ◌↔◌, inl, refl, sym, ap, subst, ◌∙◌, true, false, List, [], ◌∷◌, is_some, Option, Some, None}
use Rattle.std.specs.List.{flat_map}
use Rattle.tt_data.specs.Forest.{Forest}
use Rattle.mbe_rules.specs.Items.{Items, has_empty_round}
use Rattle.mbe_matcher.specs.Grammar.{Grammar}
use Rattle.mbe_matcher.specs.Paths.{clash, only}
use Rattle.mbe_matcher.specs.Readings as r
use Rattle.mbe_matcher.specs.Settled.{IsKept, IsSoundAt, sort_of}
use Rattle.mbe_matcher.specs.Threads as t
use Rattle.mbe_matcher.specs.Units as u
use Rattle.mbe_matcher.specs.Waiting.{Each, IsFrom, advanced_by, ended, finished, pending, settled_at}
use Rattle.mbe_matcher.specs.declared.position.Consumed.{Consumed}
use Rattle.mbe_matcher.specs.declared.position.Consumed.TheVariants as consumed
use Rattle.mbe_matcher.specs.declared.same_state.Seen.{Seen}
use Rattle.mbe_matcher.proofs.KeptLemmas.{kept-each}
use Rattle.mbe_matcher.proofs.SoundLemmas.{Sound, kept-at}
use Rattle.mbe_explain.specs.Stops.{HasTwoReadings, IsFirstClash, IsUnreadAt}
use Rattle.mbe_explain.specs.Surveys.{Leads, Surveys, comes_if, comes_of, first_or, head_taken, kind_at_end, takings_of, waits_by, waits_if, waits_of}
use Rattle.mbe_explain.specs.declared.explain.StopKind.{StopKind}
use Rattle.mbe_explain.specs.declared.explain.StopKind.TheVariants.{Ambiguous, Matches, TwoReadings, Unread}
use Rattle.mbe_explain.specs.declared.step.Step.{Step}
use Rattle.mbe_explain.specs.declared.survey.Survey.{Survey}
use Rattle.mbe_explain.proofs.ReachLemmas.{left_of}
use Rattle.mbe_explain.proofs.StopLemmas.{Entered, Waited, clash-none, clash-stop, ended-only, entered-first, next_of, none-stop, some-wait, two-stop}

module _ (gr : Grammar) (pattern : Items) (argument : Forest) where
  -- what is surveyed at a position waits there
  pub surveyed : (p : u.Place) (es ws : List t.Waits) (seen : List Seen) → Entered gr pattern argument p es →
      Leads gr pattern p (next_of gr pattern argument es) ws seen [] → Waited gr pattern argument p ws
  surveyed p es ws seen h (found, kept, covered, due) =
      let all = next_of gr pattern argument es in
      let k = subst (λ x. IsKept [] x ws) due kept in
      some-wait gr pattern argument p es ws h k (record {
        same = sym (kept-at gr pattern all ws k) ∙ h.held.same;
        here = kept-each (IsFrom (Sound gr pattern) left_of r.place_of u.left u.after_unit p) [] all ws k h.held.here;
      })

  -- after a survey, what waits is known
  pub after-survey : (p : u.Place) (entries ss : List Step) (x : Survey) → ss ≡ entries → Entered gr pattern argument p (comes_of p entries) →
      (Each (IsSoundAt pattern) (comes_of p ss) → Surveys gr pattern p (flat_map (advanced_by (settled_at gr)) (comes_of p ss)) x []) →
      Waited gr pattern argument p (waits_of p x.waiting.items)
  after-survey p entries ss x e h f =
      surveyed p (comes_of p entries) (waits_of p x.waiting.items) x.seen h
      (subst (λ y. Leads gr pattern p (flat_map (advanced_by (settled_at gr)) (comes_of p y)) (waits_of p x.waiting.items) x.seen []) e
      (f (subst (λ y. Each (IsSoundAt pattern) (comes_of p y)) (sym e) h.sound)))

  -- the first step has come to the beginning
  pub entered-start : has_empty_round pattern ≡ false → (p : u.Place) (ss : List Step) (s : Step) → ss ≡ s ∷ [] → s.taken ≡ Some consumed.Unit →
      p ≡ u.place argument [] → t.moves_of s.thread.moves ≡ [] → t.state_of s.thread p ≡ r.at pattern [] p → Entered gr pattern argument p (comes_of p ss)
  entered-start e p ss s i j k m n =
      let one : comes_of p ss ≡ pending (t.moves_of s.thread.moves) false (t.state_of s.thread p) ∷ [] =
      ap (comes_of p) i ∙ ap (λ o. comes_if s.thread p o ∷ []) j in
      subst (Entered gr pattern argument p) (sym one)
      (entered-first gr pattern argument e p (t.moves_of s.thread.moves) (t.state_of s.thread p) k m n)

  -- what each kind of a stop shows
  pub record IsFound (kind : StopKind) (p : u.Place) : Type 0 where
    pub matches : (kind ≡ Matches) ↔ (is_some (r.the_reading gr pattern argument) ≡ true)
    pub unread : kind ≡ Unread → IsUnreadAt gr pattern argument p
    pub ambiguous : kind ≡ Ambiguous → IsFirstClash gr pattern argument p
    pub two : kind ≡ TwoReadings → HasTwoReadings gr pattern argument

  no-reading : None ≡ r.the_reading gr pattern argument → is_some (r.the_reading gr pattern argument) ≡ true → ⊥
  no-reading n e = let k : is_some (let x : Option (List r.Move) = None in x) ≡ true = ap is_some n ∙ e in cc

  pub clash-found : (p : u.Place) (ss : List Step) → Waited gr pattern argument p (waits_of p ss) → clash (takings_of ss) ≡ true → IsFound Ambiguous p
  clash-found p ss h c =
      let n = clash-none gr pattern argument p ss h c in
      record {
        matches = ((λ e. absurd (cc e)), (λ e. absurd (no-reading n e)));
        unread = λ e. absurd (cc e);
        ambiguous = λ e. clash-stop gr pattern argument p ss h c;
        two = λ e. absurd (cc e);
      }

  unread-found : (p : u.Place) → Waited gr pattern argument p [] → IsFound Unread p
  unread-found p h =
      let n = ended-only gr pattern argument p [] h refl in
      record {
        matches = ((λ e. absurd (cc e)), (λ e. absurd (no-reading n e)));
        unread = λ e. none-stop gr pattern argument p h;
        ambiguous = λ e. absurd (cc e);
        two = λ e. absurd (cc e);
      }

  one-found : (p : u.Place) (ms : List r.Move) → Some ms ≡ r.the_reading gr pattern argument → IsFound Matches p
  one-found p ms n = record {
    matches = ((λ e. ap is_some (sym n)), (λ e. refl));
    unread = λ e. absurd (cc e);
    ambiguous = λ e. absurd (cc e);
    two = λ e. absurd (cc e);
  }

  two-found : (p : u.Place) → None ≡ r.the_reading gr pattern argument → HasTwoReadings gr pattern argument → IsFound TwoReadings p
  two-found p n h = record {
    matches = ((λ e. absurd (cc e)), (λ e. absurd (no-reading n e)));
    unread = λ e. absurd (cc e);
    ambiguous = λ e. absurd (cc e);
    two = λ _. h;
  }

  -- a step that waits has ended, if none has consumed something
  ended-step : (s : Step) (ss : List Step) → head_taken (s ∷ ss) ≡ None → (s.taken ≡ None) × (head_taken ss ≡ None)
  ended-step s ss e = go s.taken refl e
    where
      go : (k : Option Consumed) → s.taken ≡ k → first_or k (head_taken ss) ≡ None → (s.taken ≡ None) × (head_taken ss ≡ None)
      go None i j = (i, j)
      go (Some k) i j = absurd (cc j)

  -- where nothing more is consumed
  pub end-found : has_empty_round pattern ≡ false → (p : u.Place) (ss : List Step) → Waited gr pattern argument p (waits_of p ss) → head_taken ss ≡ None →
      IsFound (kind_at_end ss) p
  end-found e p [] h o = unread-found p h
  end-found e p (s ∷ []) h o =
      let i : waits_by p s ≡ ended (t.moves_of s.thread.moves) = ap (waits_if s.thread p) (ended-step s [] o).0 in
      one-found p (t.moves_of s.thread.moves)
      (ap (λ w. only (flat_map finished (w ∷ []))) (sym i) ∙ ended-only gr pattern argument p (s ∷ []) h o)
  end-found e p (s ∷ v ∷ ss) h o =
      let i = ended-step s (v ∷ ss) o in
      let j = ended-step v ss i.1 in
      let a : waits_by p s ≡ ended (t.moves_of s.thread.moves) = ap (waits_if s.thread p) i.0 in
      let b : waits_by p v ≡ ended (t.moves_of v.thread.moves) = ap (waits_if v.thread p) j.0 in
      let none : None ≡ only (flat_map finished (waits_of p (s ∷ v ∷ ss))) =
      ap (λ w. only (flat_map finished (ended (t.moves_of s.thread.moves) ∷ w ∷ waits_of p ss))) (sym b)
      ∙ ap (λ w. only (flat_map finished (w ∷ waits_by p v ∷ waits_of p ss))) (sym a) in
      two-found p (none ∙ ended-only gr pattern argument p (s ∷ v ∷ ss) h o)
      (two-stop gr pattern argument e p (s ∷ v ∷ ss) h o (inl (ap sort_of a)) none)
