-- A matcher whose first op cannot match has no reading.
use Rattle.std.proofs.Common.{◌≡◌, refl, ap, ◌∙◌, Bool, true, false, not, List, [], ◌∷◌, ◌++◌, None}
use Rattle.std.specs.List.{flat_map}
use Rattle.tt_data.specs.Forest.{Forest}
use Rattle.mbe_rules.specs.Items.{word, puncts, lifetime, dollar, Items, done, item, group_of, repetition, has_empty_round}
use Rattle.mbe_matcher.specs.Blocked.{is_blocked, is_stuck}
use Rattle.mbe_rules.specs.Ops.{put_op}
use Rattle.mbe_rules.specs.declared.parser.Op.{Op, Repeat', Subtree'}
use Rattle.mbe_matcher.specs.Grammar.{Grammar}
use Rattle.mbe_matcher.specs.Paths.{when}
use Rattle.mbe_matcher.specs.Readings.{Frame, State, at, in_group, in_round, parted, next, has_used_up, room, start, takes, is_fragment, the_reading, unit_move}
use Rattle.mbe_matcher.specs.Units.{Place, place, after_unit}
use Rattle.mbe_matcher.specs.Waiting.{ended, settled_one, settled_at}
use Rattle.mbe_matcher.proofs.MatchingLemmas.{outcome_at, begun-at, good-start, settled-at}

no : (b : Bool) → not b ≡ true → b ≡ false
no true e = absurd (cc e)
no false e = refl

blocked-next : (gr : Grammar) (items : Items) (p : Place) → is_blocked items p ≡ true →
    (next gr (at items [] p) ≡ []) × (has_used_up (at items [] p) ≡ false)
blocked-next gr done p e = (refl, no _ e)
blocked-next gr (item (dollar d s) rest) p e = absurd (cc e)
blocked-next gr (item (word l) rest) p e = (ap (λ b. when b (unit_move, at rest [] (after_unit p))) (no _ e), refl)
blocked-next gr (item (puncts ps) rest) p e = (ap (λ b. when b (unit_move, at rest [] (after_unit p))) (no _ e), refl)
blocked-next gr (item (lifetime q i) rest) p e = (ap (λ b. when b (unit_move, at rest [] (after_unit p))) (no _ e), refl)
blocked-next gr (group_of d inner rest) p e =
    (ap (λ b. when b (unit_move, at inner (in_group rest ∷ []) (after_unit p))) (no _ e), refl)
blocked-next gr (repetition body sep op rest) p e = absurd (cc e)

pub none-read : (gr : Grammar) (pattern : Items) (argument : Forest) → has_empty_round pattern ≡ false →
    is_blocked pattern (place argument []) ≡ true → the_reading gr pattern argument ≡ None
none-read gr pattern argument e b =
    let s = start pattern argument in
    let n = blocked-next gr pattern (place argument []) b in
    begun-at gr pattern argument e
    ∙ ap (outcome_at gr (room pattern)) (settled-at gr (room pattern) s (good-start pattern argument e)
    ∙ ap (λ b. when b (ended []) ++ flat_map (λ c. settled_one takes is_fragment s c (settled_at gr c.1)) (next gr s)) n.1
    ∙ ap (λ cs. flat_map (λ c. settled_one takes is_fragment s c (settled_at gr c.1)) cs) n.0)

-- ---- any state

pub stuck_put : (o : Op) (rest : Items) (fs : List Frame) (p : Place) → is_stuck (at (put_op o rest) fs p) ≡ is_blocked (put_op o rest) p
stuck_put (Subtree' shape row d) rest fs p = refl
stuck_put (Repeat' shape row sep k) rest fs p = refl
stuck_put _ rest fs p = refl

pub stuck-next : (gr : Grammar) (s : State) → is_stuck s ≡ true → (next gr s ≡ []) × (has_used_up s ≡ false)
stuck-next gr (at done [] p) e = (refl, no _ e)
stuck-next gr (at done (in_group after ∷ fs) p) e = (ap (λ b. when b (unit_move, at after fs (after_unit p))) (no _ e), refl)
stuck-next gr (at done (in_round body sep op after ∷ fs) p) e = absurd (cc e)
stuck-next gr (at done (parted body sep op after ∷ fs) p) e = absurd (cc e)
stuck-next gr (at (item (dollar d s) rest) fs p) e = absurd (cc e)
stuck-next gr (at (item (word l) rest) fs p) e = (ap (λ b. when b (unit_move, at rest fs (after_unit p))) (no _ e), refl)
stuck-next gr (at (item (puncts ps) rest) fs p) e = (ap (λ b. when b (unit_move, at rest fs (after_unit p))) (no _ e), refl)
stuck-next gr (at (item (lifetime q i) rest) fs p) e = (ap (λ b. when b (unit_move, at rest fs (after_unit p))) (no _ e), refl)
stuck-next gr (at (group_of d inner rest) fs p) e = (ap (λ b. when b (unit_move, at inner (in_group rest ∷ fs) (after_unit p))) (no _ e), refl)
stuck-next gr (at (repetition body sep op rest) fs p) e = absurd (cc e)
