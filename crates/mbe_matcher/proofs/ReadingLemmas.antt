-- Readings commute with a span map.
use Rattle.std.proofs.Common.{◌≡◌, refl, ℕ, zero, suc, List, [], ◌∷◌, map, Bool, true, false, Option, Some, None, option_map, if◌then◌else◌}
use Rattle.std.proofs.lemmas.List.{map-append}
use Rattle.tt_data.specs.Forest.{Forest, map_spans}
use Rattle.tt_data.specs.declared.span.Span.{Span}
use Rattle.mbe_rules.specs.Items.{Item, word, puncts, lifetime, dollar, variable, Separator, Items, done, item, group_of, repetition, variables, may_skip}
use Rattle.mbe_rules.specs.Relabelling.{item_with, separator_with, items_with}
use Rattle.mbe_rules.specs.declared.parser.MetaVarKind.{MetaVarKind}
use Rattle.mbe_rules.specs.declared.parser.MetaVarKind.TheVariants.{Vis}
use Rattle.mbe_rules.specs.declared.parser.RepeatKind.{RepeatKind}
use Rattle.mbe_rules.proofs.RelabelLemmas.{past-map, before-map, variables-map}
use Rattle.mbe_matcher.specs.Fragments.{taken}
use Rattle.mbe_matcher.specs.Grammar.{Grammar}
use Rattle.mbe_matcher.specs.Paths.{when, only, has_clash}
use Rattle.mbe_matcher.specs.Readings.{Move, unit_move, fragment_move, skip, separator_move, next_round, Frame, in_group, in_round, parted, State, at, Choice, trees_here, past_trees, fragment_moves, item_moves, may_repeat, round_moves, next, start, has_used_up, place_of, takes, is_fragment, room, most_moves, readings, takings, the_reading}
use Rattle.mbe_matcher.specs.Units.{same_unit, unit_of, is_separator, Place, place, unit_at, after_unit, opening, closing, left}
use Rattle.mbe_matcher.proofs.PathLemmas.{when-map, only-map, paths_from-map, takings_from-map}
use Rattle.mbe_matcher.proofs.UnitLemmas.{place_with, steps-map, unit_at-map, after_unit-map, left-map, is_end-map, unit_of-map, is_separator-map, taken-map}

abbrev pub move_with : (Span → Span) → Move → Move
move_with f (fragment_move n k x) = fragment_move n k (map_spans f x)
move_with f m = m

abbrev pub frame_with : (Span → Span) → Frame → Frame
frame_with f (in_group after) = in_group (items_with f after)
frame_with f (in_round body sep op after) = in_round (items_with f body) (option_map (separator_with f) sep) op (items_with f after)
frame_with f (parted body sep op after) = parted (items_with f body) (option_map (separator_with f) sep) op (items_with f after)

abbrev pub state_with : (Span → Span) → State → State
state_with f (at i fs p) = at (items_with f i) (map (frame_with f) fs) (place_with f p)

module _ (f : Span → Span) where
  abbrev choice_with : Choice → Choice
  choice_with c = (move_with f c.0, state_with f c.1)

  trees_here-map : (p : Place) → trees_here (place_with f p) ≡ map_spans f (trees_here p)
  trees_here-map (place x outer) = refl

  past_trees-map : (n : ℕ) (p : Place) → past_trees n (place_with f p) ≡ place_with f (past_trees n p)
  past_trees-map n (place x outer) = rw (past-map f n x)

  fragment_moves-map : (n : List ℕ) (k : MetaVarKind) (o : Option ℕ) (rest : Items) (fs : List Frame) (p : Place) →
      fragment_moves n k o (items_with f rest) (map (frame_with f) fs) (place_with f p) ≡ map choice_with (fragment_moves n k o rest fs p)
  fragment_moves-map n k None rest fs p = refl
  fragment_moves-map n Vis (Some zero) rest fs p = refl
  fragment_moves-map n k (Some (suc i)) rest fs p =
      rw (trees_here-map p, before-map f (suc i) (trees_here p), past_trees-map (suc i) p)
  fragment_moves-map n _ (Some zero) rest fs p = refl

  -- an item that is no variable
  unit-map : (i : Item) (rest : Items) (fs : List Frame) (p : Place) →
      when (same_unit (unit_of (item_with f i)) (unit_at (place_with f p)))
      (unit_move, at (items_with f rest) (map (frame_with f) fs) (after_unit (place_with f p)))
      ≡ map choice_with (when (same_unit (unit_of i) (unit_at p)) (unit_move, at rest fs (after_unit p)))
  unit-map i rest fs p =
      rw (unit_of-map f i, unit_at-map f p, after_unit-map f p)
      (when-map choice_with (same_unit (unit_of i) (unit_at p)) (unit_move, at rest fs (after_unit p)))

  item_moves-map : (g : Grammar) (i : Item) (rest : Items) (fs : List Frame) (p : Place) →
      item_moves g (item_with f i) (items_with f rest) (map (frame_with f) fs) (place_with f p) ≡ map choice_with (item_moves g i rest fs p)
  item_moves-map g (dollar (variable n (Some k)) s) rest fs p =
      rw (trees_here-map p, taken-map f g k (trees_here p)) (fragment_moves-map n k (taken g k (trees_here p)) rest fs p)
  item_moves-map g (word l) rest fs p = unit-map (word l) rest fs p
  item_moves-map g (puncts ps) rest fs p = unit-map (puncts ps) rest fs p
  item_moves-map g (lifetime q i) rest fs p = unit-map (lifetime q i) rest fs p
  item_moves-map g (dollar _ s) rest fs p = refl

  round_moves-map : (body : Items) (sep : Option Separator) (op : RepeatKind) (after : Items) (fs : List Frame) (p : Place) →
      round_moves (items_with f body) (option_map (separator_with f) sep) op (items_with f after) (map (frame_with f) fs) (place_with f p)
      ≡ map choice_with (round_moves body sep op after fs p)
  round_moves-map body None op after fs p = when-map choice_with (may_repeat op) (next_round, at body (in_round body None op after ∷ fs) p)
  round_moves-map body (Some sep) op after fs p =
      rw (unit_at-map f p, is_separator-map f sep (unit_at p), after_unit-map f p)
      (when-map choice_with (is_separator sep (unit_at p)) (separator_move, at done (parted body (Some sep) op after ∷ fs) (after_unit p)))

  pub next-map : (g : Grammar) (s : State) → next g (state_with f s) ≡ map choice_with (next g s)
  next-map g (at (item i rest) fs p) = item_moves-map g i rest fs p
  next-map g (at (group_of d inner rest) fs p) =
      rw (unit_at-map f p, after_unit-map f p)
      (when-map choice_with (same_unit (opening d.kind) (unit_at p)) (unit_move, at inner (in_group rest ∷ fs) (after_unit p)))
  next-map g (at (repetition body sep op rest) fs p) =
      rw (variables-map f body, when-map choice_with (may_skip op) (skip (variables body), at rest fs p))
  next-map g (at done [] p) = refl
  next-map g (at done (in_group after ∷ fs) p) =
      rw (unit_at-map f p, after_unit-map f p)
      (when-map choice_with (same_unit closing (unit_at p)) (unit_move, at after fs (after_unit p)))
  next-map g (at done (in_round body sep op after ∷ fs) p) =
      rw (round_moves-map body sep op after fs p, map-append)
  next-map g (at done (parted body sep op after ∷ fs) p) =
      when-map choice_with (may_repeat op) (next_round, at body (in_round body sep op after ∷ fs) p)

  has_used_up-map : (s : State) → has_used_up (state_with f s) ≡ has_used_up s
  has_used_up-map (at done [] p) = is_end-map f p
  has_used_up-map (at done (h ∷ fs) p) = refl
  has_used_up-map _ = refl

  room-map : (i : Items) → room (items_with f i) ≡ room i
  room-map done = refl
  room-map (item i rest) = rw (room-map rest)
  room-map (group_of d inner rest) = rw (room-map inner, room-map rest)
  room-map (repetition body sep op rest) = rw (room-map body, room-map rest)

  most_moves-map : (pattern : Items) (argument : Forest) → most_moves (items_with f pattern) (map_spans f argument) ≡ most_moves pattern argument
  most_moves-map pattern argument = rw (room-map pattern, steps-map f argument)

  takes-map : (m : Move) → takes (move_with f m) ≡ takes m
  takes-map (fragment_move n k x) = refl
  takes-map _ = refl

  is_fragment-map : (m : Move) → is_fragment (move_with f m) ≡ is_fragment m
  is_fragment-map (fragment_move n k x) = refl
  is_fragment-map _ = refl

  left_of-map : (s : State) → left (place_of (state_with f s)) ≡ left (place_of s)
  left_of-map (at i fs (place x outer)) = left-map f x outer

  readings-map : (g : Grammar) (pattern : Items) (argument : Forest) →
      readings g (items_with f pattern) (map_spans f argument) ≡ map (map (move_with f)) (readings g pattern argument)
  readings-map g pattern argument =
      rw (most_moves-map pattern argument)
      (paths_from-map (move_with f) (state_with f) (next g) (next g) (next-map g) has_used_up has_used_up has_used_up-map
      (most_moves pattern argument) (start pattern argument))

  takings-map : (g : Grammar) (pattern : Items) (argument : Forest) →
      takings g (items_with f pattern) (map_spans f argument) ≡ takings g pattern argument
  takings-map g pattern argument =
      rw (most_moves-map pattern argument)
      (takings_from-map (move_with f) (state_with f) (next g) (next g) (next-map g) takes is_fragment takes is_fragment
      (λ s. left (place_of s)) (λ s. left (place_of s)) takes-map is_fragment-map left_of-map (most_moves pattern argument) (start pattern argument))

  -- the reading of a rule at other places is the reading at other places
  pub the_reading-map : (g : Grammar) (pattern : Items) (argument : Forest) →
      the_reading g (items_with f pattern) (map_spans f argument) ≡ option_map (map (move_with f)) (the_reading g pattern argument)
  the_reading-map g pattern argument =
      rw (takings-map g pattern argument, readings-map g pattern argument, only-map (map (move_with f)) (readings g pattern argument))
      (go (has_clash (takings g pattern argument)) (only (readings g pattern argument)))
    where
      go : (b : Bool) (o : Option (List Move)) →
          (if b then None else option_map (map (move_with f)) o) ≡ option_map (map (move_with f)) (if b then None else o)
      go true o = refl
      go false o = refl
