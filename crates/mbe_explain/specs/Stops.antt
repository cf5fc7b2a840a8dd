-- Stops: how far the partial readings by a matcher come in an argument. (Of this project.)
use Rattle.std.specs.Prelude.{◌≡◌, ◌≢◌, ℕ, ◌≤◌, ◌<◌, true, false, List, [], ◌∷◌, Option, Some, None}
use Rattle.tt_data.specs.declared.delimiter.Delimiter.{Delimiter}
use Rattle.tt_data.specs.Forest.{Forest}
use Rattle.mbe_rules.specs.Items.{Item, Items, Separator, done, group_of, item, repetition}
use Rattle.mbe_matcher.specs.Grammar.{Grammar}
use Rattle.mbe_matcher.specs.Paths.{IsPath, clash, has_clash, takings_at}
use Rattle.mbe_matcher.specs.Readings.{Frame, Move, State, at, in_group, in_round, parted}
use Rattle.mbe_matcher.specs.Readings.{next, place_of, readings, start, takings}
use Rattle.mbe_matcher.specs.Units.{Place, left}

module _ (gr : Grammar) (pattern : Items) (argument : Forest) where
  -- a state that a partial reading comes to
  abbrev pub Reaches : State → Type 0
  Reaches s = (ms : List Move) × IsPath (next gr) (start pattern argument) ms s

  -- a position that a partial reading comes to, and none comes further
  pub record IsFurthest (p : Place) : Type 0 where
    pub reached : (s : State) × Reaches s × (place_of s ≡ p)
    pub last : (s : State) → Reaches s → left p ≤ left (place_of s)

  -- nowhere is a fragment consumed and something else too, no reading uses up the argument, and
  -- none comes further
  pub record IsUnreadAt (p : Place) : Type 0 where
    pub clear : has_clash (takings gr pattern argument) ≡ false
    pub none : readings gr pattern argument ≡ []
    pub furthest : IsFurthest p

  -- the first position at which a fragment is consumed by one partial reading, and something else
  -- too
  pub record IsFirstClash (p : Place) : Type 0 where
    pub reached : (s : State) × Reaches s × (place_of s ≡ p)
    pub clashes : clash (takings_at (left p) (takings gr pattern argument)) ≡ true
    pub first : (q : ℕ) → left p < q → clash (takings_at q (takings gr pattern argument)) ≡ false

  -- two different lists of moves use up the argument, and nowhere is a fragment consumed and
  -- something else too
  pub record HasTwoReadings : Type 0 where
    pub clear : has_clash (takings gr pattern argument) ≡ false
    pub first : List Move
    pub second : List Move
    pub others : List (List Move)
    pub two : readings gr pattern argument ≡ first ∷ second ∷ others
    pub differ : first ≢ second

-- what a matcher has to read next: an op, a separator, the closing of a group, the end of the
-- argument
pub data Wanted : Type 0 where
  wants_item : Item → Wanted
  wants_group : Delimiter → Wanted
  wants_separator : Separator → Wanted
  wants_close : Wanted
  wants_end : Wanted

-- what a list of ops begins with, if that has to be read
abbrev pub wanted_first : Items → Option Wanted
wanted_first done = None
wanted_first (item i rest) = Some (wants_item i)
wanted_first (group_of d inner rest) = Some (wants_group d)
wanted_first (repetition body sep op rest) = None

-- what has to be read at the end of a list of ops, inside these groups and repetitions
abbrev pub wanted_last : List Frame → Option Wanted
wanted_last [] = Some wants_end
wanted_last (in_group after ∷ fs) = Some wants_close
wanted_last (in_round body (Some sep) op after ∷ fs) = Some (wants_separator sep)
wanted_last (in_round body None op after ∷ fs) = None
wanted_last (parted body sep op after ∷ fs) = None

-- what has to be read in a state; none where the next move consumes nothing
abbrev pub wanted : State → Option Wanted
wanted (at done fs p) = wanted_last fs
wanted (at items fs p) = wanted_first items

-- a partial reading comes to this position and wants this there
abbrev pub IsWantedAt : Grammar → Items → Forest → Place → Wanted → Type 0
IsWantedAt gr pattern argument p w =
    (s : State) × Reaches gr pattern argument s × (place_of s ≡ p) × (wanted s ≡ Some w)
