-- The loop's lemmas at the states of a matcher: they are good, and they are in the matcher.
use Rattle.std.proofs.Common.{◌≡◌, refl, ap, ℕ, suc, ◌<◌, true, false, List, [], arith}
use Rattle.std.specs.List.{flat_map}
use Rattle.tt_data.specs.Forest.{Forest}
use Rattle.mbe_rules.specs.Items.{Items, has_empty_round}
use Rattle.mbe_rules.specs.Text.{is_nil}
use Rattle.mbe_matcher.specs.Grammar.{Grammar}
use Rattle.mbe_matcher.specs.Paths.{IsAmong, only, clash}
use Rattle.mbe_matcher.specs.Positions.{IsIn}
use Rattle.mbe_matcher.specs.Readings.{State, Move, Choice, start, place_of, next, has_used_up, takes, is_fragment, room}
use Rattle.mbe_matcher.specs.Settled.{IsKept}
use Rattle.mbe_matcher.specs.Units.{Place, left, after_unit}
use Rattle.mbe_matcher.specs.Waiting.{Waiting, finished, settled_at, Good, empties_at, Each, heads, advanced_by, IsFrom, IsTo}
use Rattle.mbe_matcher.proofs.FallingLemmas.{bound}
use Rattle.mbe_matcher.proofs.KeptLemmas.{kept-same}
use Rattle.mbe_matcher.proofs.LoopLemmas as loop
use Rattle.mbe_matcher.proofs.MatchingLemmas.{outcome_at, good-start}
use Rattle.mbe_matcher.proofs.MoveLemmas.{does, falls}
use Rattle.mbe_matcher.proofs.PositionLemmas.{stays-in, start-in}

module _ (g : Grammar) (pattern : Items) where
  abbrev pub Sound : State → Type 0
  Sound s = Good (room pattern) s × IsIn pattern s

  abbrev measure : State → ℕ
  measure s = bound (room pattern) s

  sound-falls : (s : State) (c : Choice) → Sound s → IsAmong c (next g s) → Sound c.1 × (measure c.1 < measure s)
  sound-falls s c h a = let f = falls g (room pattern) s c h.0 a in ((f.0, stays-in pattern g s c h.1 a), f.1)

  enough : (s : State) (c : Choice) → Sound s → IsAmong c (next g s) → takes c.0 ≡ false → suc (empties_at c.1) < suc (empties_at s)
  enough s c h a e = let f = (does g (room pattern) s c a).empties_fall e h.0 in omega (arith, f)

  keeps : (s : State) (c : Choice) → Sound s → IsAmong c (next g s) → takes c.0 ≡ false → left (place_of c.1) ≡ left (place_of s)
  keeps s c h a e = ap left ((does g (room pattern) s c a).stays e)

  stays : (s : State) (c : Choice) → Sound s → IsAmong c (next g s) → takes c.0 ≡ false → place_of c.1 ≡ place_of s
  stays s c h a e = (does g (room pattern) s c a).stays e

  unit : (s : State) (c : Choice) → Sound s → IsAmong c (next g s) → takes c.0 ≡ true → is_fragment c.0 ≡ false → place_of c.1 ≡ after_unit (place_of s)
  unit s c h a e f = (does g (room pattern) s c a).unit e f

  lowers : (s : State) (c : Choice) → Sound s → IsAmong c (next g s) → takes c.0 ≡ true → left (place_of c.1) < left (place_of s)
  lowers s c h a e = (does g (room pattern) s c a).lowers e

  -- waiting paths whose moves were made at p
  abbrev pub AllFrom : Place → List (Waiting Move State) → Type 0
  AllFrom p ws = Each (IsFrom Sound (λ s. left (place_of s)) place_of left after_unit p) ws

  -- waiting paths whose moves lead to r, which is below q
  abbrev pub AllTo : ℕ → Place → List (Waiting Move State) → Type 0
  AllTo q r ws = Each (IsTo Sound (λ s. left (place_of s)) place_of q r) ws

  pub advance-at : (q : ℕ) (r : Place) (ws : List (Waiting Move State)) → AllTo q r ws →
      clash (flat_map heads ws) ≡ false → outcome_at g (room pattern) ws ≡ outcome_at g (room pattern) (flat_map (advanced_by (settled_at g)) ws)
  unfolding settled_at
  advance-at q r ws h e =
      loop.advance (next g) has_used_up takes is_fragment (λ s. left (place_of s)) measure (λ s. suc (empties_at s))
      Sound sound-falls (λ s. omega arith) (λ s. omega arith) enough keeps lowers
      place_of after_unit left (λ s. refl) stays unit q r ws h e

  pub from-advanced-at : (q : ℕ) (r : Place) (ws : List (Waiting Move State)) → AllTo q r ws →
      AllFrom r (flat_map (advanced_by (settled_at g)) ws)
  unfolding settled_at
  from-advanced-at q r ws h =
      loop.from-advanced (next g) has_used_up takes is_fragment (λ s. left (place_of s)) measure (λ s. suc (empties_at s))
      Sound sound-falls (λ s. omega arith) (λ s. omega arith) enough keeps lowers
      place_of after_unit left (λ s. refl) stays unit q r ws h

  pub one_place-at : (p : Place) (ws : List (Waiting Move State)) → AllFrom p ws → clash (flat_map heads ws) ≡ false →
      (r : Place) × AllTo (left p) r ws
  unfolding settled_at
  one_place-at p ws h e =
      loop.one_place (next g) has_used_up takes is_fragment (λ s. left (place_of s)) measure (λ s. suc (empties_at s))
      Sound sound-falls (λ s. omega arith) (λ s. omega arith) enough keeps lowers
      place_of after_unit left (λ s. refl) stays unit p ws h e

  pub from-settled-at : (s : State) → Sound s → AllFrom (place_of s) (settled_at g s)
  unfolding settled_at
  from-settled-at s h =
      loop.from-settled (next g) has_used_up takes is_fragment (λ s. left (place_of s)) measure (λ s. suc (empties_at s))
      Sound sound-falls (λ s. omega arith) (λ s. omega arith) enough keeps lowers
      place_of after_unit left (λ s. refl) stays unit s h

  pub over-at : (ws : List (Waiting Move State)) → is_nil (flat_map heads ws) ≡ true → outcome_at g (room pattern) ws ≡ only (flat_map finished ws)
  over-at ws e =
      loop.over (next g) has_used_up takes is_fragment (λ s. left (place_of s)) measure (λ s. suc (empties_at s))
      Sound sound-falls (λ s. omega arith) (λ s. omega arith) enough keeps lowers
      place_of after_unit left (λ s. refl) stays unit ws e

  pub sound-start : (argument : Forest) → has_empty_round pattern ≡ false → Sound (start pattern argument)
  sound-start argument e = (good-start pattern argument e, start-in pattern argument)

  -- what is kept leads to the same
  pub kept-at : (all kept : List (Waiting Move State)) → IsKept [] all kept → outcome_at g (room pattern) all ≡ outcome_at g (room pattern) kept
  kept-at all kept k =
      kept-same (next g) has_used_up takes is_fragment (λ s. left (place_of s)) measure (λ s. suc (empties_at s)) all kept k
