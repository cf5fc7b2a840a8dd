-- Why a matcher has no reading: none uses up the argument, two do, or two partial ones clash.
use Rattle.std.proofs.Common.{◌≡◌, ◌⊎◌, inl, inr, refl, sym, ap, ◌∙◌, ℕ, zero, suc, ◌<◌, Bool, true, false, List, [], ◌∷◌, ◌++◌, Option, Some, None, if◌then◌else◌}
use Rattle.std.specs.Prelude.{◌↔◌}
use Rattle.tt_data.specs.Forest.{Forest}
use Rattle.mbe_rules.specs.Items.{Item, dollar, variable, Separator, Items, done, item, group_of, repetition, variables, may_skip, has_empty_round}
use Rattle.mbe_rules.specs.declared.parser.MetaVarKind.{MetaVarKind}
use Rattle.mbe_rules.specs.declared.parser.MetaVarKind.TheVariants.{Vis}
use Rattle.mbe_rules.specs.declared.parser.RepeatKind.{RepeatKind}
use Rattle.mbe_transcriber.specs.mbe_matcher.Grammar.{Grammar}
use Rattle.mbe_transcriber.specs.mbe_matcher.Paths.{IsAmong, when, only, has_clash}
use Rattle.mbe_transcriber.specs.mbe_matcher.Readings.{Move, enter, skip, leave, next_round, separator_move, Frame, in_group, in_round, parted, State, at, Choice, fragment_moves, item_moves, may_repeat, round_moves, next, start, has_used_up, place_of, takes, is_fragment, room, most_moves, readings, takings, the_reading}
use Rattle.mbe_transcriber.specs.mbe_matcher.Units.{same_unit, unit_of, unit_at, is_separator, Place, left}
use Rattle.mbe_transcriber.specs.mbe_matcher.Waiting.{Good}
use Rattle.mbe_transcriber.proofs.FallingLemmas.{bound}
use Rattle.mbe_transcriber.proofs.MatchingLemmas.{enough-moves, good-start, the_reading-only}
use Rattle.mbe_transcriber.proofs.MoveLemmas.{falls}
use Rattle.mbe.specs.NoReading.{UsesUp, HasTwo, HasClashing}
use Rattle.mbe.proofs.PartialLemmas.{AreApart, apart-when, clash-two, none-or-two, one-only, two-clash}

-- ---- the moves of a state differ

abbrev AreOwn : List Choice → Type 0
AreOwn cs = AreApart (λ (c : Choice). c.0) cs

one-fragment : (n : List ℕ) (k : MetaVarKind) (o : Option ℕ) (rest : Items) (fs : List Frame) (p : Place) → AreOwn (fragment_moves n k o rest fs p)
one-fragment n k None rest fs p = tt
one-fragment n Vis (Some zero) rest fs p = (λ y h e. h, tt)
one-fragment n k (Some (suc i)) rest fs p = (λ y h e. h, tt)
one-fragment n _ (Some zero) rest fs p = tt

one-item : (g : Grammar) (i : Item) (rest : Items) (fs : List Frame) (p : Place) → AreOwn (item_moves g i rest fs p)
one-item g (dollar (variable n (Some k)) s) rest fs p = one-fragment n k _ rest fs p
one-item g (dollar _ s) rest fs p = tt
one-item g i rest fs p = apart-when _ (same_unit (unit_of i) (unit_at p)) _

-- a move, if there is one, and another after it
then-other : (b : Bool) (c d : Choice) → (d.0 ≡ c.0 → ⊥) → AreOwn (when b c ++ d ∷ [])
then-other true c d differ = (λ y h e. elim h [ inl k ↦ differ (ap (λ (c : Choice). c.0) k ∙ e) | inr k ↦ k ], ((λ y h e. h), tt))
then-other false c d differ = (λ y h e. h, tt)

other-then : (c : Choice) (b : Bool) (d : Choice) → (d.0 ≡ c.0 → ⊥) → AreOwn (c ∷ when b d)
other-then c true d differ = (λ y h e. elim h [ inl k ↦ differ (ap (λ (c : Choice). c.0) k ∙ e) | inr k ↦ k ], ((λ y h e. h), tt))
other-then c false d differ = (λ y h e. h, tt)

round-apart : (body : Items) (sep : Option Separator) (op : RepeatKind) (after : Items) (fs : List Frame) (p : Place)
    → AreOwn (round_moves body sep op after fs p ++ (leave, at after fs p) ∷ [])
round-apart body None op after fs p = then-other (may_repeat op) (next_round, _) (leave, _) (λ e. cc)
round-apart body (Some sep) op after fs p = then-other (is_separator sep (unit_at p)) (separator_move, _) (leave, _) (λ e. cc)

next-apart : (g : Grammar) (s : State) → AreOwn (next g s)
next-apart g (at (item i rest) fs p) = one-item g i rest fs p
next-apart g (at (group_of d inner rest) fs p) = apart-when _ _ _
next-apart g (at (repetition body sep op rest) fs p) = other-then (enter, at body (in_round body sep op rest ∷ fs) p) (may_skip op) (skip (variables body), at rest fs p) (λ e. cc)
next-apart g (at done [] p) = tt
next-apart g (at done (in_group after ∷ fs) p) = apart-when _ _ _
next-apart g (at done (in_round body sep op after ∷ fs) p) = round-apart body sep op after fs p
next-apart g (at done (parted body sep op after ∷ fs) p) = apart-when _ _ _

-- ---- the three reasons

module _ (g : Grammar) (pattern : Items) (argument : Forest) (sound : has_empty_round pattern ≡ false) where
  abbrev position_of : State → ℕ
  position_of s = left (place_of s)

  falling : (s : State) (c : Choice) → Good (room pattern) s → IsAmong c (next g s) → Good (room pattern) c.1 × (bound (room pattern) c.1 < bound (room pattern) s)
  falling s c k a = falls g (room pattern) s c k a

  clash-is : has_clash (takings g pattern argument) ≡ true → HasClashing g pattern argument
  clash-is h =
      let t = clash-two (next g) takes is_fragment position_of (next-apart g) (most_moves pattern argument) (start pattern argument) h in
      record {
        one_moves = t.one_moves;
        one = t.one;
        two_moves = t.two_moves;
        two = t.two;
        first = record { before = t.first.before; after = t.first.after; path = t.first.path; valid = t.first.valid; consumes = t.first.is_taken };
        second = record { before = t.second.before; after = t.second.after; path = t.second.path; valid = t.second.valid; consumes = t.second.is_taken };
        differ = t.differ;
        position = t.position;
        fragment = t.fragment;
      }

  is-clash : HasClashing g pattern argument → has_clash (takings g pattern argument) ≡ true
  is-clash t =
      two-clash (next g) takes is_fragment position_of (Good (room pattern)) (bound (room pattern)) falling (most_moves pattern argument) (start pattern argument)
      (good-start pattern argument sound) (enough-moves pattern argument sound)
      (record {
        one_moves = t.one_moves;
        one = t.one;
        two_moves = t.two_moves;
        two = t.two;
        first = record { before = t.first.before; after = t.first.after; path = t.first.path; valid = t.first.valid; is_taken = t.first.consumes };
        second = record { before = t.second.before; after = t.second.after; path = t.second.path; valid = t.second.valid; is_taken = t.second.consumes };
        differ = t.differ;
        position = t.position;
        fragment = t.fragment;
      })

  abbrev HasReason : Type 0
  HasReason = ((moves : List Move) → UsesUp g pattern argument moves → ⊥) ⊎ (HasTwo g pattern argument ⊎ HasClashing g pattern argument)

  none-or-two-of : only (readings g pattern argument) ≡ None → HasReason
  none-or-two-of h =
      elim (none-or-two (next g) has_used_up (Good (room pattern)) (bound (room pattern)) falling (next-apart g) (most_moves pattern argument) (start pattern argument)
      (good-start pattern argument sound) (enough-moves pattern argument sound) h) [
        | inl k ↦ inl k
        | inr t ↦ inr (inl (record { one = t.one; two = t.two; one_uses_up = t.one_whole; two_uses_up = t.two_whole; differ = t.differ }))
      ]

  reason : the_reading g pattern argument ≡ None → HasReason
  reason = go (has_clash (takings g pattern argument)) refl
    where
      go : (b : Bool) → has_clash (takings g pattern argument) ≡ b → (if b then None else only (readings g pattern argument)) ≡ None → HasReason
      go true e h = inr (inr (clash-is e))
      go false e h = none-or-two-of h

  not-both : (b : Bool) → b ≡ false → b ≡ true → ⊥
  not-both true e f = absurd (cc e)
  not-both false e f = absurd (cc f)

  by-reason : HasReason → (o : Option (List Move)) → the_reading g pattern argument ≡ o → the_reading g pattern argument ≡ None
  by-reason r None e = e
  by-reason (inl none) (Some ms) e = let u = the_reading-only g pattern argument ms sound e in absurd (none ms u.1)
  by-reason (inr (inl t)) (Some ms) e =
      let u = the_reading-only g pattern argument ms sound e in
      absurd (t.differ (u.2 t.one t.one_uses_up.0 t.one_uses_up.1 t.one_uses_up.2 ∙ sym (u.2 t.two t.two_uses_up.0 t.two_uses_up.1 t.two_uses_up.2)))
  by-reason (inr (inr t)) (Some ms) e =
      let u = the_reading-only g pattern argument ms sound e in
      absurd (not-both (has_clash (takings g pattern argument)) u.0 (is-clash t))

  pub none-of-three : (the_reading g pattern argument ≡ None) ↔ HasReason
  none-of-three = (reason, λ r. by-reason r (the_reading g pattern argument) refl)

  abbrev IsOnly : List Move → Type 0
  IsOnly moves = UsesUp g pattern argument moves × ((others : List Move) → UsesUp g pattern argument others → others ≡ moves) × (HasClashing g pattern argument → ⊥)

  is-only : (moves : List Move) → the_reading g pattern argument ≡ Some moves → IsOnly moves
  is-only moves e =
      let u = the_reading-only g pattern argument moves sound e in
      (u.1, (λ others w. u.2 others w.0 w.1 w.2), λ t. not-both (has_clash (takings g pattern argument)) u.0 (is-clash t))

  by-only : (moves : List Move) → IsOnly moves → the_reading g pattern argument ≡ Some moves
  by-only moves i = go (has_clash (takings g pattern argument)) refl
    where
      go : (b : Bool) → has_clash (takings g pattern argument) ≡ b → (if b then None else only (readings g pattern argument)) ≡ Some moves
      go true e = absurd (i.2 (clash-is e))
      go false e =
          one-only (next g) has_used_up (Good (room pattern)) (bound (room pattern)) falling (next-apart g) (most_moves pattern argument) (start pattern argument) moves
          (good-start pattern argument sound) (enough-moves pattern argument sound) i.0 i.1

  pub only-of-one : (moves : List Move) → (the_reading g pattern argument ≡ Some moves) ↔ IsOnly moves
  only-of-one moves = (is-only moves, by-only moves)
