-- A thread that is visited in a search.
use Rattle.std.proofs.Common.{◌≡◌, ◌↔◌, inl, inr, refl, sym, ap, subst, ◌∙◌, option_map, Bool, true, List, [], ◌∷◌, ◌++◌, map, append_assoc, append-nil, Option, Some, None, ℕ, ◌+◌, ◌-◌, ◌<◌, ◌≤◌, drop, get_or, length, arith}
use Rattle.std.specs.List.{list_any}
use Rattle.std.proofs.lemmas.Grind.{flat_map-append}
use Rattle.std.proofs.lemmas.List.{drop_at, drop_more, map-append}
use Rattle.mbe_rules.specs.Items.{Items}
use Rattle.mbe_matcher.specs.Grammar.{Grammar}
use Rattle.mbe_matcher.specs.Paths.{IsAmong}
use Rattle.mbe_matcher.specs.Positions.{IsIn}
use Rattle.mbe_matcher.specs.Readings as r
use Rattle.mbe_matcher.specs.Threads.{extended, given, moves_of, same_state, state_of}
use Rattle.mbe_matcher.specs.Settled.{IsSoundAt}
use Rattle.mbe_matcher.specs.Units as u
use Rattle.mbe_matcher.specs.Waiting.{Each}
use Rattle.mbe_matcher.specs.declared.position.Consumed.{Consumed}
use Rattle.mbe_matcher.specs.declared.same_state.Seen.{Seen}
use Rattle.mbe_matcher.specs.declared.step.Choice.{Choice}
use Rattle.mbe_matcher.specs.declared.thread.Thread.{Thread}
use Rattle.mbe_matcher.proofs.KeptLemmas.{among-right}
use Rattle.mbe_matcher.proofs.TaskLemmas.{each-put}
use Rattle.mbe_explain.specs.Searches.{IsNearWant, Searched, come_by, come_if, come_to, entered_of, open_by, open_if, open_of}
use Rattle.mbe_explain.specs.Stops.{Wanted, wanted}
use Rattle.mbe_explain.specs.Surveys.{HasEnd, choice_of, comes_by, planned}
use Rattle.mbe_explain.specs.Wants.{told_by, want_in, wants_of}
use Rattle.mbe_explain.specs.declared.step.Step.{Step}
use Rattle.mbe_explain.specs.declared.survey.Task.{Task}
use Rattle.mbe_explain.specs.declared.survey.Task.TheVariants.{GoOn, Note}
use Rattle.mbe_explain.specs.declared.wanted.Wanted as c
use Rattle.mbe_explain.proofs.SearchLemmas.{again, all-entered, begun, entered, near-in, opened-all, opened-sound}
use Rattle.mbe_explain.proofs.SurveyLemmas.{good-now}
use Rattle.mbe_explain.proofs.WantedLemmas.{was-entered}

told-only : (s : r.State) (want : Option c.Wanted) → want_in want ≡ wanted s → (w : Wanted) → IsAmong (Some w) (told_by want) → wanted s ≡ Some w
told-only s None e w a = absurd a
told-only s (Some x) e w (inl i) = sym e ∙ i
told-only s (Some x) e w (inr a) = absurd a

told-all : (s : r.State) (want : Option c.Wanted) → want_in want ≡ wanted s → (w : Wanted) → wanted s ≡ Some w → IsAmong (Some w) (told_by want)
told-all s None e w i = absurd (cc (e ∙ i))
told-all s (Some x) e w i = inl (e ∙ i)

module _ (gr : Grammar) (entries : List r.State) (p : u.Place) where
  -- one whose state was entered is passed
  pub passes : (pattern : Items) → ((x : r.State) → IsAmong x entries → IsIn pattern x) → (h : Thread) (xs : List Seen) (ts : List Task) (ws : List (Option Wanted)) →
      true ≡ list_any (λ x. same_state x.thread h) xs → Searched gr entries (entered_of p xs) (open_of p ts ++ (state_of h p ∷ [])) ws →
      Searched gr entries (entered_of p xs) (open_of p ts) ws
  passes pattern f h xs ts ws e l =
      let s = state_of h p in
      again gr entries (entered_of p xs) (open_of p ts) s ws l
      (was-entered pattern p h xs (near-in gr entries pattern f s (l.near s (inr (among-right s (open_of p ts) (s ∷ []) (inl refl)))))
      (λ x a. near-in gr entries pattern f x (l.near x (inl a))) (sym e))

  -- any other is entered
  pub visits : (h : Thread) (xs ys : List Seen) (ts us : List Task) (ws vs : List (Option Wanted)) (first second : Option Step) (want : Option c.Wanted) (twice : Bool) →
      ys ≡ xs ++ (record { thread = h; twice = twice } ∷ []) → us ≡ (ts ++ planned second) ++ planned first → vs ≡ ws ++ told_by want →
      want_in want ≡ wanted (state_of h p) → given p (option_map choice_of first) ++ given p (option_map choice_of second) ≡ map (extended (moves_of h.moves)) (r.next gr (state_of h p)) →
      Searched gr entries (entered_of p xs) (open_of p ts ++ (state_of h p ∷ [])) ws → Searched gr entries (entered_of p ys) (open_of p us) vs
  visits h xs ys ts us ws vs first second want twice e f i j k l =
      let s = state_of h p in
      let ms = moves_of h.moves in
      let seen : entered_of p ys ≡ entered_of p xs ++ (s ∷ []) = ap (entered_of p) e ∙ map-append (λ (x : Seen). state_of x.thread p) xs (record { thread = h; twice = twice } ∷ []) in
      let due : open_of p us ≡ open_of p ts ++ (open_of p (planned second) ++ open_of p (planned first)) =
      ap (open_of p) f ∙ flat_map-append (open_by p) (ts ++ planned second) (planned first)
      ∙ ap (λ x. x ++ open_of p (planned first)) (flat_map-append (open_by p) ts (planned second))
      ∙ append_assoc (open_of p ts) (open_of p (planned second)) (open_of p (planned first)) in
      subst (λ x. Searched gr entries x (open_of p us) vs) (sym seen)
      (subst (λ x. Searched gr entries (entered_of p xs ++ (s ∷ [])) x vs) (sym due)
      (subst (λ x. Searched gr entries (entered_of p xs ++ (s ∷ [])) (open_of p ts ++ (open_of p (planned second) ++ open_of p (planned first))) x) (sym i)
      (entered gr entries (entered_of p xs) (open_of p ts) (open_of p (planned second) ++ open_of p (planned first)) s ws (told_by want) l
      (opened-sound p gr ms s first second k) (opened-all p gr ms s first second k) (told-only s want j) (told-all s want j))))

  -- ---- tasks of a search

  due-push : (ts us : List Task) (t : Task) → us ≡ ts ++ (t ∷ []) → open_of p us ≡ open_of p ts ++ open_by p t
  due-push ts us t e = ap (open_of p) e ∙ flat_map-append (open_by p) ts (t ∷ []) ∙ ap (λ x. open_of p ts ++ x) (append-nil (open_by p t))

  due-none : (seen : List r.State) (ts : List Task) (t : Task) (ws : List (Option Wanted)) → open_by p t ≡ [] →
      Searched gr entries seen (open_of p (ts ++ (t ∷ []))) ws → Searched gr entries seen (open_of p ts) ws
  due-none seen ts t ws e h =
      subst (λ x. Searched gr entries seen x ws) (due-push ts (ts ++ (t ∷ [])) t refl ∙ ap (λ x. open_of p ts ++ x) e ∙ append-nil (open_of p ts)) h

  pub note-passed : (seen : List r.State) (ts : List Task) (t : Task) (x : Seen) (ws : List (Option Wanted)) → t ≡ Note x →
      Searched gr entries seen (open_of p (ts ++ (t ∷ []))) ws → Searched gr entries seen (open_of p ts) ws
  note-passed seen ts t x ws e h = due-none seen ts t ws (ap (open_by p) e) h

  pub taken-passed : (seen : List r.State) (ts : List Task) (t : Task) (s : Step) (k : Consumed) (ws : List (Option Wanted)) → t ≡ GoOn s → s.taken ≡ Some k →
      Searched gr entries seen (open_of p (ts ++ (t ∷ []))) ws → Searched gr entries seen (open_of p ts) ws
  taken-passed seen ts t s k ws e i h = due-none seen ts t ws (ap (open_by p) e ∙ ap (λ o. open_if o (state_of s.thread p)) i) h

  pub step-due : (seen : List r.State) (ts : List Task) (t : Task) (s : Step) (ws : List (Option Wanted)) → t ≡ GoOn s → s.taken ≡ None →
      Searched gr entries seen (open_of p (ts ++ (t ∷ []))) ws → Searched gr entries seen (open_of p ts ++ (state_of s.thread p ∷ [])) ws
  step-due seen ts t s ws e i h =
      subst (λ x. Searched gr entries seen x ws)
      (due-push ts (ts ++ (t ∷ [])) t refl ∙ ap (λ x. open_of p ts ++ x) (ap (open_by p) e ∙ ap (λ o. open_if o (state_of s.thread p)) i)) h

  -- at first nothing was entered
  pub search-begins : (seen : List Seen) (ts : List Task) (vs : List c.Wanted) → seen ≡ [] → open_of p ts ≡ entries → vs ≡ [] →
      Searched gr entries (entered_of p seen) (open_of p ts) (wants_of vs)
  search-begins seen ts vs e f i =
      subst (λ x. Searched gr entries (entered_of p x) (open_of p ts) (wants_of vs)) (sym e)
      (subst (λ x. Searched gr entries [] x (wants_of vs)) (sym f) (subst (λ x. Searched gr entries [] entries (wants_of x)) (sym i) (begun gr entries)))

  -- where no task is left, the wants are those of all that are near
  pub search-ends : (seen : List r.State) (ts : List Task) (ws : List (Option Wanted)) → ts ≡ [] → Searched gr entries seen (open_of p ts) ws → (w : Wanted) →
      IsAmong (Some w) ws ↔ IsNearWant gr entries w
  search-ends seen ts ws e h w =
      let last = subst (λ x. Searched gr entries seen (open_of p x) ws) e h in
      (h.wants w, (λ n. h.told n.0 (all-entered gr entries seen ws last n.0 n.1) w n.2))

-- ---- entries

open-push : (p : u.Place) (ts us : List Task) (t : Task) → us ≡ ts ++ (t ∷ []) → open_of p us ≡ open_of p ts ++ open_by p t
open-push p ts us t e = ap (open_of p) e ∙ flat_map-append (open_by p) ts (t ∷ []) ∙ ap (λ x. open_of p ts ++ x) (append-nil (open_by p t))

pub entry-due : (p : u.Place) (ts us : List Task) (s v : Step) (k : Consumed) → us ≡ ts ++ (GoOn v ∷ []) → s.taken ≡ Some k →
    choice_of v ≡ record { thread = s.thread; taken = None } → open_of p us ≡ open_of p ts ++ come_by p s
entry-due p ts us s v k e i c =
    open-push p ts us (GoOn v) e
    ∙ ap (λ x. open_of p ts ++ x) (ap (λ (x : Choice). open_if x.taken (state_of x.thread p)) c ∙ ap (λ o. come_if o (state_of s.thread p)) (sym i))

pub no-entry-due : (p : u.Place) (ts : List Task) (s : Step) → s.taken ≡ None → open_of p ts ≡ open_of p ts ++ come_by p s
no-entry-due p ts s i = sym (ap (λ o. open_of p ts ++ come_if o (state_of s.thread p)) i ∙ append-nil (open_of p ts))

pub entry-end : (pattern : Items) (p : u.Place) (ts us : List Task) (s v : Step) (k : Consumed) → us ≡ ts ++ (GoOn v ∷ []) → s.taken ≡ Some k →
    choice_of v ≡ record { thread = s.thread; taken = None } → IsSoundAt pattern (comes_by p s) → Each (HasEnd p) ts → Each (HasEnd p) us
entry-end pattern p ts us s v k e i c sound h =
    subst (Each (HasEnd p)) (sym e) (each-put (HasEnd p) ts (GoOn v ∷ []) h ((λ _. good-now pattern p s v k i c sound), tt))

-- no entry is past the last step
pub no-entries : (p : u.Place) (ss : List Step) → come_to p (drop (length ss) ss) ≡ []
no-entries p ss = ap (come_to p) (ap (drop (length ss)) (sym (append-nil ss)) ∙ drop_at ss [] (length ss) refl)

-- one more entry, before those that come after it
pub entry-more : (p : u.Place) (ss : List Step) (left : ℕ) (s : Step) → s ≡ get_or ss (left - 1) s → 0 < left → left ≤ length ss →
    come_to p (drop left ss) ++ come_by p s ≡ come_to p (drop (left - 1) ss)
entry-more p ss left s e h l =
    let n : left - 1 + 1 ≡ left = omega (arith, h) in
    ap (λ k. come_to p (drop k ss) ++ come_by p s) (sym n)
    ∙ ap (λ x. come_to p (drop (left - 1 + 1) ss) ++ come_by p x) e
    ∙ sym (ap (come_to p) (drop_more ss (left - 1) s (omega (arith, h, l))))
