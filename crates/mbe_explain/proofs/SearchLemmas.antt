-- A search of all states at a position: each that is near is entered once.
use Rattle.std.proofs.Common.{◌≡◌, ◌⊎◌, inl, inr, refl, sym, ap, subst, ◌∙◌, option_map, false, List, [], ◌∷◌, ◌++◌, map, Option, Some, None}
use Rattle.mbe_rules.specs.Items.{Items}
use Rattle.mbe_matcher.specs.Grammar.{Grammar}
use Rattle.mbe_matcher.specs.Paths.{IsAmong, IsPath}
use Rattle.mbe_matcher.specs.Places.{place_after}
use Rattle.mbe_matcher.specs.Positions.{IsIn}
use Rattle.mbe_matcher.specs.Readings as r
use Rattle.mbe_matcher.specs.Threads.{Made, extended, given, is_some_taken, made_of, state_of}
use Rattle.mbe_matcher.specs.Units as u
use Rattle.mbe_matcher.specs.Waiting.{Each}
use Rattle.mbe_matcher.specs.declared.position.Consumed.{Consumed}
use Rattle.mbe_matcher.specs.declared.thread.Thread.{Thread}
use Rattle.mbe_matcher.proofs.KeptLemmas.{among-left, among-right}
use Rattle.mbe_matcher.proofs.PathListLemmas.{among-append}
use Rattle.mbe_matcher.proofs.PositionLemmas.{stays-in}
use Rattle.mbe_explain.specs.Searches.{IsNear, Searched, open_if, open_of}
use Rattle.mbe_explain.specs.Stops.{Wanted, wanted}
use Rattle.mbe_explain.specs.Surveys.{choice_of, planned}
use Rattle.mbe_explain.specs.declared.step.Step.{Step}
use Rattle.mbe_explain.proofs.ListLemmas.{in-map, of-map}
use Rattle.mbe_explain.proofs.ReachLemmas.{one-more}

each-push : {A : Type 0} (Q : A → Type 0) (xs : List A) (x : A) → Each Q xs → Q x → Each Q (xs ++ (x ∷ []))
each-push Q [] x h q = (q, tt)
each-push Q (y ∷ xs) x h q = (h.0, each-push Q xs x h.1 q)

module _ (gr : Grammar) (entries : List r.State) where
  -- a state that is near is in the matcher, if those that have come are
  pub near-in : (pattern : Items) → ((x : r.State) → IsAmong x entries → IsIn pattern x) → (x : r.State) → IsNear gr entries x → IsIn pattern x
  near-in pattern f x n = go n.state n.moves (f n.state n.among) n.path
    where
      go : (s : r.State) (ms : List r.Move) → IsIn pattern s → IsPath (r.next gr) s ms x → IsIn pattern x
      go s [] i e = subst (IsIn pattern) e i
      go s (m ∷ ms) i (v, a, p) = go v ms (stays-in pattern gr s (m, v) i a) p

  near-next : (x : r.State) (c : r.Choice) → IsNear gr entries x → IsAmong c (r.next gr x) → r.takes c.0 ≡ false → IsNear gr entries c.1
  near-next x c n a e = record {
    state = n.state;
    among = n.among;
    moves = n.moves ++ (c.0 ∷ []);
    nothing = each-push (λ m. r.takes m ≡ false) n.moves c.0 n.nothing e;
    path = one-more gr n.state x n.moves c n.path a;
  }

  -- ---- one after another

  -- those that have come are due at first
  pub begun : Searched gr entries [] entries []
  begun = record {
    near = λ x h. elim h [ inl a ↦ absurd a | inr a ↦ record { state = x; among = a; moves = []; nothing = tt; path = refl } ];
    come = λ x a. inr a;
    closed = λ x a. absurd a;
    told = λ x a. absurd a;
    wants = λ w a. absurd a;
  }

  -- one more that is due and not entered, or none
  move-on : (seen due : List r.State) (s x : r.State) → IsAmong x seen ⊎ IsAmong x (due ++ (s ∷ [])) → (IsAmong x seen ⊎ IsAmong x due) ⊎ (s ≡ x)
  move-on seen due s x (inl a) = inl (inl a)
  move-on seen due s x (inr a) =
      elim (among-append x due (s ∷ []) a) [ inl b ↦ inl (inr b) | inr b ↦ elim b [ inl e ↦ inr e | inr c ↦ absurd c ] ]

  -- one that was entered is passed
  pub again : (seen due : List r.State) (s : r.State) (ws : List (Option Wanted)) → Searched gr entries seen (due ++ (s ∷ [])) ws → IsAmong s seen →
      Searched gr entries seen due ws
  again seen due s ws h a = record {
    near = λ x i. h.near x (elim i [ inl b ↦ inl b | inr b ↦ inr (among-left x due (s ∷ []) b) ]);
    come = λ x i. back x (h.come x i);
    closed = λ x i c j e. back c.1 (h.closed x i c j e);
    told = h.told;
    wants = h.wants;
  }
    where
      back : (x : r.State) → IsAmong x seen ⊎ IsAmong x (due ++ (s ∷ [])) → IsAmong x seen ⊎ IsAmong x due
      back x i = elim (move-on seen due s x i) [ inl b ↦ b | inr e ↦ inl (subst (λ y. IsAmong y seen) e a) ]

  -- any other is entered: its moves that consume nothing are due, and what it wants is told
  pub entered : (seen due more : List r.State) (s : r.State) (ws vs : List (Option Wanted)) → Searched gr entries seen (due ++ (s ∷ [])) ws →
      ((x : r.State) → IsAmong x more → (c : r.Choice) × IsAmong c (r.next gr s) × (r.takes c.0 ≡ false) × (c.1 ≡ x)) →
      ((c : r.Choice) → IsAmong c (r.next gr s) → r.takes c.0 ≡ false → IsAmong c.1 more) →
      ((w : Wanted) → IsAmong (Some w) vs → wanted s ≡ Some w) → ((w : Wanted) → wanted s ≡ Some w → IsAmong (Some w) vs) →
      Searched gr entries (seen ++ (s ∷ [])) (due ++ more) (ws ++ vs)
  entered seen due more s ws vs h sound complete only all = record {
    near = λ x i. elim i [
      | inl a ↦ elim (among-append x seen (s ∷ []) a) [ inl b ↦ h.near x (inl b) | inr b ↦ elim b [ inl e ↦ subst (IsNear gr entries) e near-s | inr c ↦ absurd c ] ]
      | inr a ↦ elim (among-append x due more a) [
        | inl b ↦ h.near x (inr (among-left x due (s ∷ []) b))
        | inr b ↦ let o = sound x b in subst (IsNear gr entries) o.3 (near-next s o.0 near-s o.1 o.2)
      ]
    ];
    come = λ x i. on x (h.come x i);
    closed = λ x i c j e. elim (among-append x seen (s ∷ []) i) [
      | inl a ↦ on c.1 (h.closed x a c j e)
      | inr a ↦ elim a [
        | inl k ↦ inr (among-right c.1 due more (complete c (subst (λ y. IsAmong c (r.next gr y)) (sym k) j) e))
        | inr b ↦ absurd b
      ]
    ];
    told = λ x i w e. elim (among-append x seen (s ∷ []) i) [
      | inl a ↦ among-left (Some w) ws vs (h.told x a w e)
      | inr a ↦ elim a [ inl k ↦ among-right (Some w) ws vs (all w (ap wanted k ∙ e)) | inr b ↦ absurd b ]
    ];
    wants = λ w i. elim (among-append (Some w) ws vs i) [
      | inl a ↦ h.wants w a
      | inr a ↦ (s, near-s, only w a)
    ];
  }
    where
      near-s : IsNear gr entries s
      near-s = h.near s (inr (among-right s due (s ∷ []) (inl refl)))

      on : (x : r.State) → IsAmong x seen ⊎ IsAmong x (due ++ (s ∷ [])) → IsAmong x (seen ++ (s ∷ [])) ⊎ IsAmong x (due ++ more)
      on x i = elim (move-on seen due s x i) [
        | inl b ↦ elim b [ inl a ↦ inl (among-left x seen (s ∷ []) a) | inr a ↦ inr (among-left x due more a) ]
        | inr e ↦ inl (among-right x seen (s ∷ []) (inl e))
      ]

  -- at last each that is near was entered
  pub all-entered : (seen : List r.State) (ws : List (Option Wanted)) → Searched gr entries seen [] ws → (x : r.State) → IsNear gr entries x → IsAmong x seen
  all-entered seen ws h x n = go n.state n.moves (now n.state (h.come n.state n.among)) n.nothing n.path
    where
      now : (s : r.State) → IsAmong s seen ⊎ IsAmong s [] → IsAmong s seen
      now s (inl a) = a
      now s (inr a) = absurd a

      go : (s : r.State) (ms : List r.Move) → IsAmong s seen → Each (λ m. r.takes m ≡ false) ms → IsPath (r.next gr) s ms x → IsAmong x seen
      go s [] a q e = subst (λ y. IsAmong y seen) e a
      go s (m ∷ ms) a q (v, b, p) = go v ms (now v (h.closed s a (m, v) b q.0)) q.1 p

-- ---- choices

module _ (p : u.Place) where
  in-open : (o : Option Step) (m : Made) → IsAmong m (given p (option_map choice_of o)) → m.1 ≡ false → IsAmong m.3 (open_of p (planned o))
  in-open None m a e = absurd a
  in-open (Some c) m (inl i) e =
      subst (λ y. IsAmong y (open_if c.taken (state_of c.thread p) ++ [])) (ap (λ (x : Made). x.3) i)
      (among-left (state_of c.thread (place_after p c.taken)) (open_if c.taken (state_of c.thread p)) []
      (here c.thread c.taken (ap (λ (x : Made). x.1) i ∙ e)))
    where
      here : (t : Thread) (k : Option Consumed) → is_some_taken k ≡ false → IsAmong (state_of t (place_after p k)) (open_if k (state_of t p))
      here t None e = inl refl
      here t (Some k) e = absurd (cc e)
  in-open (Some c) m (inr a) e = absurd a

  of-open : (o : Option Step) (x : r.State) → IsAmong x (open_of p (planned o)) → (m : Made) × IsAmong m (given p (option_map choice_of o)) × (m.1 ≡ false) × (m.3 ≡ x)
  of-open None x a = absurd a
  of-open (Some c) x a =
      elim (among-append x (open_if c.taken (state_of c.thread p)) [] a) [
        | inl b ↦ let h = here c.thread c.taken b in (made_of p (choice_of c), inl refl, h.0, h.1)
        | inr b ↦ absurd b
      ]
    where
      here : (t : Thread) (k : Option Consumed) → IsAmong x (open_if k (state_of t p)) → (is_some_taken k ≡ false) × (state_of t (place_after p k) ≡ x)
      here t None (inl e) = (refl, e)
      here t None (inr b) = absurd b
      here t (Some k) b = absurd b

  module _ (gr : Grammar) (ms : List r.Move) (s : r.State) (first second : Option Step)
      (e : given p (option_map choice_of first) ++ given p (option_map choice_of second) ≡ map (extended ms) (r.next gr s)) where
    -- the states that two choices due
    abbrev pub opened : List r.State
    opened = open_of p (planned second) ++ open_of p (planned first)

    of-given : (m : Made) (x : r.State) → IsAmong m (given p (option_map choice_of first) ++ given p (option_map choice_of second)) → m.1 ≡ false → m.3 ≡ x →
        (c : r.Choice) × IsAmong c (r.next gr s) × (r.takes c.0 ≡ false) × (c.1 ≡ x)
    of-given m x a f i =
        let d = of-map (extended ms) m (r.next gr s) (subst (IsAmong m) e a) in
        (d.0, d.1, ap (λ (x : Made). x.1) d.2 ∙ f, ap (λ (x : Made). x.3) d.2 ∙ i)

    -- each that they due is the state after a move that consumes nothing
    pub opened-sound : (x : r.State) → IsAmong x opened → (c : r.Choice) × IsAmong c (r.next gr s) × (r.takes c.0 ≡ false) × (c.1 ≡ x)
    opened-sound x a =
        elim (among-append x (open_of p (planned second)) (open_of p (planned first)) a) [
          | inl b ↦ let o = of-open second x b in of-given o.0 x (among-right o.0 (given p (option_map choice_of first)) (given p (option_map choice_of second)) o.1) o.2 o.3
          | inr b ↦ let o = of-open first x b in of-given o.0 x (among-left o.0 (given p (option_map choice_of first)) (given p (option_map choice_of second)) o.1) o.2 o.3
        ]

    -- and each such state is opened
    pub opened-all : (c : r.Choice) → IsAmong c (r.next gr s) → r.takes c.0 ≡ false → IsAmong c.1 opened
    opened-all c a f =
        let m = extended ms c in
        elim (among-append m (given p (option_map choice_of first)) (given p (option_map choice_of second)) (subst (IsAmong m) (sym e) (in-map (extended ms) c (r.next gr s) a))) [
          | inl b ↦ among-right c.1 (open_of p (planned second)) (open_of p (planned first)) (in-open first m b f)
          | inr b ↦ among-left c.1 (open_of p (planned second)) (open_of p (planned first)) (in-open second m b f)
        ]
