-- The groups and repetitions that a step is in, and what they are among the matcher's.
use Rattle.std.specs.Prelude.{◌≡◌, List, [], ◌∷◌, map, Option, Some, None}
use Rattle.std.specs.Borrow.{Bor}
use Rattle.mbe_rules.specs.Items.{Separator}
use Rattle.mbe_matcher.specs.Readings.{Choice, Frame, State, at, in_group, in_round, parted}
use Rattle.mbe_matcher.specs.Threads.{between_of, frames_of}
use Rattle.mbe_matcher.specs.declared.thread.Thread.{Thread}
use Rattle.mbe_explain.specs.declared.choices.Ahead.{Ahead}
use Rattle.mbe_explain.specs.declared.level.Inside.{Inside}
use Rattle.mbe_explain.specs.declared.level.Inside.TheVariants.{Group, Iteration, Separated}
use Rattle.mbe_explain.specs.declared.level.Level.{Held-Level-around, Level, Level', None', Some'}

-- a group, an iteration of a repetition, or the place after a separator
pub data Mark : Type 0 where
  group_mark : Mark
  round_mark : Option Separator → Mark
  parted_mark : Option Separator → Mark

-- what something that is open is
abbrev pub mark_of : Inside → Mark
mark_of Group = group_mark
mark_of (Iteration s) = round_mark (between_of s)
mark_of (Separated s) = parted_mark (between_of s)

abbrev mutual
  -- what is open at a level, and around it
  pub marks_to : Level → List Mark
  marks_to (Level' inside around) = mark_of inside ∷ marks_around around

  -- what is open around a level
  pub marks_around : Held-Level-around → List Mark
  marks_around None' = []
  marks_around (Some' p l) = marks_to l

-- all that is open
abbrev pub marks_of : Option (Bor Level) → List Mark
marks_of None = []
marks_of (Some l) = marks_to l.now

-- what a frame of the matcher is
abbrev pub frame_mark : Frame → Mark
frame_mark (in_group after) = group_mark
frame_mark (in_round body sep op after) = round_mark sep
frame_mark (parted body sep op after) = parted_mark sep

-- what is open in a state
abbrev pub marks_in : State → List Mark
marks_in (at items fs p) = map frame_mark fs

-- these are the levels that a thread is in
abbrev pub IsInside : Thread → Option (Bor Level) → Type 0
IsInside t levels = map frame_mark (frames_of t.frames) ≡ marks_of levels

-- what is open after the first and the second of two choices, or after the only one
abbrev pub AreAhead : (first second only : List Mark) → List Choice → Type 0
AreAhead first second only [] = Unit {0}
AreAhead first second only (c ∷ []) = marks_in c.1 ≡ only
AreAhead first second only (c ∷ d ∷ cs) = (marks_in c.1 ≡ first) × (marks_in d.1 ≡ second)

-- these levels are what is open after these choices
abbrev pub IsOpenAfter : Ahead → List Choice → Type 0
IsOpenAfter a cs = AreAhead (marks_of a.first) (marks_of a.second) (marks_of a.only) cs
