-- The loop's lemmas for the transition system of matchers, whose moves are `next`.
use Rattle.std.proofs.Common.{◌≡◌, inl, refl, ap, ◌∙◌, ℕ, zero, suc, ◌+◌, ◌*◌, ◌≤◌, ◌<◌, Bool, true, false, List, [], ◌∷◌, ◌++◌, map, Option, Some, None, if◌then◌else◌, arith}
use Rattle.std.specs.List.{flat_map}
use Rattle.mbe_matcher.proofs.PathListLemmas.{only-path}
use Rattle.mbe_matcher.specs.Paths.{IsAmong, IsPath, when, only, has_clash, paths_from, takings_from}
use Rattle.tt_data.specs.Forest.{Forest}
use Rattle.mbe_matcher.specs.Grammar.{Grammar}
use Rattle.fragment_grammar.specs.Steps.{steps}
use Rattle.mbe_rules.specs.Items.{Items, has_empty_round}
use Rattle.mbe_matcher.specs.Units.{left, after_unit}
use Rattle.mbe_matcher.specs.Readings.{State, Move, Choice, start, place_of, next, has_used_up, takes, is_fragment, room, most_moves, readings, takings, the_reading}
use Rattle.mbe_matcher.specs.Waiting.{gather, Waiting, ended, unless, settled_one, settled_at, Good, empties_at}
use Rattle.mbe_matcher.proofs.GatherLemmas.{gather-enough, flat_map-among}
use Rattle.mbe_matcher.proofs.FallingLemmas.{bound, within}
use Rattle.mbe_matcher.proofs.MoveLemmas.{does, falls}
use Rattle.mbe_matcher.proofs.LoopLemmas as loop

paths-gather : {M S : Type 0} (step : S → List (M × S)) (ends : S → Bool) (n : ℕ) (s : S) →
    paths_from step ends n s ≡ gather step (λ t. when (ends t) []) (λ t c r. map (λ ms. c.0 ∷ ms) r) n s
paths-gather step ends zero s = refl
paths-gather step ends (suc n) s =
    ap (λ r. when (ends s) [] ++ r)
    (flat_map-among _ _ (step s) (λ c a. ap (map (λ ms. c.0 ∷ ms)) (paths-gather step ends n c.1)))

takings-gather : {M S : Type 0} (step : S → List (M × S)) (t f : M → Bool) (l : S → ℕ) (n : ℕ) (s : S) →
    takings_from step t f l n s ≡ gather step (λ s. []) (λ s c r. when (t c.0) (l s, f c.0) ++ r) n s
takings-gather step t f l zero s = refl
takings-gather step t f l (suc n) s =
    flat_map-among _ _ (step s) (λ c a. ap (λ r. when (t c.0) (l s, f c.0) ++ r) (takings-gather step t f l n c.1))

if-unless : {A : Type 0} (b : Bool) (x : Option A) → (if b then None else x) ≡ unless b x
if-unless true x = refl
if-unless false x = refl

module _ (g : Grammar) (N : ℕ) where
  abbrev pub outcome_at : List (Waiting Move State) → Option (List Move)
  outcome_at ws = loop.outcome (next g) has_used_up takes is_fragment (λ s. left (place_of s)) (bound N) (λ s. suc (empties_at s)) ws

  abbrev pub outcome_later : List (Waiting Move State) → Option (List Move)
  outcome_later ws =
      unless (has_clash (flat_map (loop.later (next g) has_used_up takes is_fragment (λ s. left (place_of s)) (bound N) (λ s. suc (empties_at s))) ws))
      (only (flat_map (loop.answers (next g) has_used_up takes is_fragment (λ s. left (place_of s)) (bound N) (λ s. suc (empties_at s))) ws))

  enough : (s : State) (c : Choice) → Good N s → IsAmong c (next g s) → takes c.0 ≡ false → suc (empties_at c.1) < suc (empties_at s)
  enough s c h a e = let f = (does g N s c a).empties_fall e h in omega (arith, f)

  keeps : (s : State) (c : Choice) → Good N s → IsAmong c (next g s) → takes c.0 ≡ false → left (place_of c.1) ≡ left (place_of s)
  keeps s c h a e = ap left ((does g N s c a).stays e)

  pub settled-at : (s : State) → Good N s →
      settled_at g s ≡ when (has_used_up s) (ended []) ++ flat_map (λ c. settled_one takes is_fragment s c (settled_at g c.1)) (next g s)
  unfolding settled_at
  settled-at s h =
      loop.settled-step (next g) has_used_up takes is_fragment (λ s. left (place_of s)) (bound N) (λ s. suc (empties_at s))
      (Good N) (λ s c h a. falls g N s c h a) (λ s. omega arith) (λ s. omega arith) enough s h

  stays : (s : State) (c : Choice) → Good N s → IsAmong c (next g s) → takes c.0 ≡ false → place_of c.1 ≡ place_of s
  stays s c h a e = (does g N s c a).stays e

  unit : (s : State) (c : Choice) → Good N s → IsAmong c (next g s) → takes c.0 ≡ true → is_fragment c.0 ≡ false → place_of c.1 ≡ after_unit (place_of s)
  unit s c h a e f = (does g N s c a).unit e f

  lowers : (s : State) (c : Choice) → Good N s → IsAmong c (next g s) → takes c.0 ≡ true → left (place_of c.1) < left (place_of s)
  lowers s c h a e = (does g N s c a).lowers e

  readings-at : (n : ℕ) (s : State) → Good N s → bound N s ≤ n →
      paths_from (next g) has_used_up n s ≡ gather (next g) (λ t. when (has_used_up t) []) (λ t c r. map (λ ms. c.0 ∷ ms) r) (bound N s) s
  readings-at n s h k =
      paths-gather (next g) has_used_up n s
      ∙ gather-enough (next g) (λ t. when (has_used_up t) []) (λ t c r. map (λ ms. c.0 ∷ ms) r) (Good N) (bound N) (λ s. omega arith)
      (λ s c h a. inl (falls g N s c h a)) n (bound N s) s h k (omega arith)

  takings-at : (n : ℕ) (s : State) → Good N s → bound N s ≤ n →
      takings_from (next g) takes is_fragment (λ s. left (place_of s)) n s
      ≡ gather (next g) (λ t. []) (λ t c r. when (takes c.0) (left (place_of t), is_fragment c.0) ++ r) (bound N s) s
  takings-at n s h k =
      takings-gather (next g) takes is_fragment (λ s. left (place_of s)) n s
      ∙ gather-enough (next g) (λ t. []) (λ t c r. when (takes c.0) (left (place_of t), is_fragment c.0) ++ r) (Good N) (bound N) (λ s. omega arith)
      (λ s c h a. inl (falls g N s c h a)) n (bound N s) s h k (omega arith)

pub good-start : (pattern : Items) (argument : Forest) → has_empty_round pattern ≡ false →
    Good (room pattern) (start pattern argument)
good-start pattern argument e = (e, omega arith, tt)

pub enough-moves : (pattern : Items) (argument : Forest) → has_empty_round pattern ≡ false →
    bound (room pattern) (start pattern argument) ≤ most_moves pattern argument
enough-moves pattern argument e =
    let w = within (room pattern) (start pattern argument) (good-start pattern argument e) in
    let k = suc-times (steps argument) (suc (room pattern)) in
    omega (arith, w, k)
  where
    suc-times : (a b : ℕ) → suc a * b ≡ b + a * b
    suc-times a b = omega arith

-- the only reading is what the paths that wait at first lead to
pub begun-at : (g : Grammar) (pattern : Items) (argument : Forest) → has_empty_round pattern ≡ false →
    the_reading g pattern argument ≡ outcome_at g (room pattern) (settled_at g (start pattern argument))
unfolding settled_at
begun-at g pattern argument e =
    let N = room pattern in
    let s = start pattern argument in
    let h = good-start pattern argument e in
    if-unless (has_clash (takings g pattern argument)) (only (readings g pattern argument))
    ∙ ap (λ x. unless (has_clash x) (only (readings g pattern argument))) (takings-at g N (most_moves pattern argument) s h (enough-moves pattern argument e))
    ∙ ap (λ x. unless (has_clash (gather (next g) (λ t. []) (λ t c r. when (takes c.0) (left (place_of t), is_fragment c.0) ++ r) (bound N s) s)) (only x))
    (readings-at g N (most_moves pattern argument) s h (enough-moves pattern argument e))
    ∙ loop.begun (next g) has_used_up takes is_fragment (λ s. left (place_of s)) (bound N) (λ s. suc (empties_at s))
    (Good N) (λ s c h a. falls g N s c h a) (λ s. omega arith) (λ s. omega arith) (λ s c h a e. enough g N s c h a e)
    (λ s c h a e. keeps g N s c h a e) (λ s c h a e. lowers g N s c h a e)
    place_of after_unit left (λ s. refl) (λ s c h a e. stays g N s c h a e) (λ s c h a e f. unit g N s c h a e f) s h

-- the reading that is given is a reading, and no other list of moves is one
pub the_reading-only : (g : Grammar) (pattern : Items) (argument : Forest) (ms : List Move) →
    has_empty_round pattern ≡ false → the_reading g pattern argument ≡ Some ms →
    (has_clash (takings g pattern argument) ≡ false)
    × ((t : State) × IsPath (next g) (start pattern argument) ms t × (has_used_up t ≡ true))
    × ((ns : List Move) (t : State) → IsPath (next g) (start pattern argument) ns t → has_used_up t ≡ true → ns ≡ ms)
the_reading-only g pattern argument ms e h =
    let u = parts (has_clash (takings g pattern argument)) h in
    let o = only-path (next g) has_used_up (Good (room pattern)) (bound (room pattern)) (λ s c k a. falls g (room pattern) s c k a)
    (most_moves pattern argument) (start pattern argument) ms (good-start pattern argument e) (enough-moves pattern argument e) u.1 in
    (u.0, o.0, o.1)
  where
    parts : (b : Bool) → (if b then None else only (readings g pattern argument)) ≡ Some ms →
        (b ≡ false) × (only (readings g pattern argument) ≡ Some ms)
    parts true k = absurd (cc k)
    parts false k = (refl, k)
