-- Readings: how a matcher uses up an argument. (The Rust Reference, "Macros By Example".)
use Rattle.std.specs.Prelude.{ℕ, zero, suc, ◌+◌, ◌*◌, Bool, true, false, List, [], ◌∷◌, ◌++◌, Option, Some, None, if◌then◌else◌}
use Rattle.tt_data.specs.Forest.{Forest}
use Rattle.mbe_rules.specs.Items.{Item, dollar, variable, Separator, Items, done, item, group_of, repetition, variables, may_skip}
use Rattle.mbe_rules.specs.Trees.{before, past}
use Rattle.mbe_rules.specs.declared.parser.MetaVarKind.{MetaVarKind}
use Rattle.mbe_rules.specs.declared.parser.MetaVarKind.TheVariants.{Vis}
use Rattle.mbe_rules.specs.declared.parser.RepeatKind.{RepeatKind}
use Rattle.mbe_rules.specs.declared.parser.RepeatKind.TheVariants.{ZeroOrOne}
use Rattle.mbe_matcher.specs.Fragments.{taken}
use Rattle.mbe_matcher.specs.Grammar.{Grammar}
use Rattle.fragment_grammar.specs.Steps.{steps}
use Rattle.mbe_matcher.specs.Paths.{when, only, Takings, paths_from, takings_from, has_clash}
use Rattle.mbe_matcher.specs.Units.{same_unit, unit_of, is_separator, Place, place, unit_at, after_unit, opening, closing, left, is_end}

-- a move of a reading
pub data Move : Type 0 where
  unit_move : Move
  fragment_move : (name : List ℕ) → MetaVarKind → Forest → Move
  -- a `vis` that consumes nothing
  nothing_move : (name : List ℕ) → Move
  enter : Move
  skip : (names : List (List ℕ)) → Move
  leave : Move
  separator_move : Move
  next_round : Move

-- what goes on after the present list of ops: after a group's closing, after an iteration, or
-- after a separator, when only another iteration may come
pub data Frame : Type 0 where
  in_group : (after : Items) → Frame
  in_round : (body : Items) → Option Separator → RepeatKind → (after : Items) → Frame
  parted : (body : Items) → Option Separator → RepeatKind → (after : Items) → Frame

-- the ops that are left, what goes on after them, and the position in the argument
pub data State : Type 0 where
  at : Items → List Frame → Place → State

-- a move, and the state after it
abbrev pub Choice : Type 0
Choice = Move × State

-- the trees left in the innermost open group
abbrev pub trees_here : Place → Forest
trees_here (place f outer) = f

-- the position after n of them
abbrev pub past_trees : ℕ → Place → Place
past_trees n (place f outer) = place (past n f) outer

-- a fragment of so many trees; one of none is a `vis`
abbrev pub fragment_moves : List ℕ → MetaVarKind → Option ℕ → Items → List Frame → Place → List Choice
fragment_moves n k None rest fs p = []
fragment_moves n Vis (Some zero) rest fs p = (nothing_move n, at rest fs p) ∷ []
fragment_moves n k (Some zero) rest fs p = []
fragment_moves n k (Some (suc i)) rest fs p =
    (fragment_move n k (before (suc i) (trees_here p)), at rest fs (past_trees (suc i) p)) ∷ []

-- the moves of an op
abbrev pub item_moves : Grammar → Item → Items → List Frame → Place → List Choice
item_moves grammar (dollar (variable n (Some k)) s) rest fs p =
    fragment_moves n k (taken grammar k (trees_here p)) rest fs p
item_moves grammar (dollar d s) rest fs p = []
item_moves grammar i rest fs p = when (same_unit (unit_of i) (unit_at p)) (unit_move, at rest fs (after_unit p))

-- another iteration may follow
abbrev pub may_repeat : RepeatKind → Bool
may_repeat ZeroOrOne = false
may_repeat _ = true

-- after an iteration: its separator, or without one the next iteration
abbrev pub round_moves : Items → Option Separator → RepeatKind → Items → List Frame → Place → List Choice
round_moves body None op after fs p = when (may_repeat op) (next_round, at body (in_round body None op after ∷ fs) p)
round_moves body (Some sep) op after fs p =
    when (is_separator sep (unit_at p)) (separator_move, at done (parted body (Some sep) op after ∷ fs) (after_unit p))

-- the moves that are valid in a state, each with the state after it
abbrev pub next : Grammar → State → List Choice
next grammar (at (item i rest) fs p) = item_moves grammar i rest fs p
next grammar (at (group_of d inner rest) fs p) =
    when (same_unit (opening d.kind) (unit_at p)) (unit_move, at inner (in_group rest ∷ fs) (after_unit p))
next grammar (at (repetition body sep op rest) fs p) =
    (enter, at body (in_round body sep op rest ∷ fs) p) ∷ when (may_skip op) (skip (variables body), at rest fs p)
next grammar (at done [] p) = []
next grammar (at done (in_group after ∷ fs) p) =
    when (same_unit closing (unit_at p)) (unit_move, at after fs (after_unit p))
next grammar (at done (in_round body sep op after ∷ fs) p) =
    round_moves body sep op after fs p ++ ((leave, at after fs p) ∷ [])
next grammar (at done (parted body sep op after ∷ fs) p) =
    when (may_repeat op) (next_round, at body (in_round body sep op after ∷ fs) p)

-- the state before a matcher and an argument
abbrev pub start : Items → Forest → State
start pattern argument = at pattern [] (place argument [])

-- both are at their ends
abbrev pub has_used_up : State → Bool
has_used_up (at done [] p) = is_end p
has_used_up _ = false

-- the position of a state in the argument
abbrev pub place_of : State → Place
place_of (at items fs p) = p

-- a move that consumes a unit, a separator or a fragment
abbrev pub takes : Move → Bool
takes unit_move = true
takes separator_move = true
takes (fragment_move n k f) = true
takes _ = false

-- a move that consumes a fragment
abbrev pub is_fragment : Move → Bool
is_fragment (fragment_move n k f) = true
is_fragment _ = false

-- more moves than any run of moves that consume nothing in a list of ops
abbrev pub room : Items → ℕ
room done = 0
room (item i rest) = 1 + room rest
room (group_of d inner rest) = room inner + room rest
room (repetition body sep op rest) = 2 + (2 * room body + room rest)

-- no reading has more moves, if no repetition can iterate without end
abbrev pub most_moves : Items → Forest → ℕ
most_moves pattern argument = suc (steps argument) * suc (room pattern)

-- the lists of valid moves that use up the argument
abbrev pub readings : Grammar → Items → Forest → List (List Move)
readings grammar pattern argument =
    paths_from (next grammar) has_used_up (most_moves pattern argument) (start pattern argument)

-- all units, separators and fragments that partial readings consume
abbrev pub takings : Grammar → Items → Forest → Takings
takings grammar pattern argument =
    takings_from (next grammar) takes is_fragment (λ s. left (place_of s)) (most_moves pattern argument) (start pattern argument)

-- the only reading: exactly one exists, and nowhere is a fragment consumed and something else too
abbrev pub the_reading : Grammar → Items → Forest → Option (List Move)
the_reading grammar pattern argument =
    if has_clash (takings grammar pattern argument) then None else only (readings grammar pattern argument)
