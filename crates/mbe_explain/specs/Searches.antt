-- A search of all states that are entered at a position.
use Rattle.std.specs.Prelude.{◌≡◌, ◌⊎◌, false, List, [], ◌∷◌, ◌++◌, map, Option, Some, None}
use Rattle.std.specs.List.{flat_map}
use Rattle.mbe_matcher.specs.Grammar.{Grammar}
use Rattle.mbe_matcher.specs.Paths.{IsAmong, IsPath}
use Rattle.mbe_matcher.specs.Readings.{Choice, Move, State, next, takes}
use Rattle.mbe_matcher.specs.Threads.{state_of}
use Rattle.mbe_matcher.specs.Units as u
use Rattle.mbe_matcher.specs.Waiting.{Each}
use Rattle.mbe_matcher.specs.declared.position.Consumed.{Consumed}
use Rattle.mbe_matcher.specs.declared.same_state.Seen.{Seen}
use Rattle.mbe_explain.specs.Stops.{Wanted, wanted}
use Rattle.mbe_explain.specs.Wants.{wants_of}
use Rattle.mbe_explain.specs.declared.step.Step.{Step}
use Rattle.mbe_explain.specs.declared.survey.Survey.{Survey}
use Rattle.mbe_explain.specs.declared.survey.Task.{Task}
use Rattle.mbe_explain.specs.declared.survey.Task.TheVariants.{GoOn, Note}
use Rattle.mbe_explain.specs.declared.wanted.Wanted as code

-- a state to be entered, if the move that leads to it consumes nothing
abbrev pub open_if : Option Consumed → State → List State
open_if None s = s ∷ []
open_if (Some k) s = []

-- the state that a task is to enter
abbrev pub open_by : u.Place → Task → List State
open_by p (GoOn s) = open_if s.taken (state_of s.thread p)
open_by p (Note x) = []

-- the states that tasks are to enter
abbrev pub open_of : u.Place → List Task → List State
open_of p ts = flat_map (open_by p) ts

-- the states that were entered
abbrev pub entered_of : u.Place → List Seen → List State
entered_of p xs = map (λ x. state_of x.thread p) xs

module _ (gr : Grammar) (entries : List State) where
  -- a state that one of these leads to by moves that consume nothing
  pub record IsNear (x : State) : Type 0 where
    pub state : State
    pub among : IsAmong state entries
    pub moves : List Move
    pub nothing : Each (λ m. takes m ≡ false) moves
    pub path : IsPath (next gr) state moves x

  -- some states were entered and others are due, all of them near, and these are the wants of
  -- those that were entered
  pub record Searched (seen due : List State) (ws : List (Option Wanted)) : Type 0 where
    pub near : (x : State) → IsAmong x seen ⊎ IsAmong x due → IsNear x
    pub come : (x : State) → IsAmong x entries → IsAmong x seen ⊎ IsAmong x due
    pub closed : (x : State) → IsAmong x seen → (c : Choice) → IsAmong c (next gr x) →
        takes c.0 ≡ false → IsAmong c.1 seen ⊎ IsAmong c.1 due
    pub told : (x : State) → IsAmong x seen → (w : Wanted) → wanted x ≡ Some w → IsAmong (Some w) ws
    pub wants : (w : Wanted) → IsAmong (Some w) ws → (x : State) × IsNear x × (wanted x ≡ Some w)

  -- a survey at a position has entered its states and told these wants, and these states are due
  abbrev pub SearchedAt : u.Place → Survey → List code.Wanted → List State → Type 0
  SearchedAt p x ws due = Searched (entered_of p x.seen) due (wants_of ws)

  -- one of these leads to a state that wants this, by moves that consume nothing
  abbrev pub IsNearWant : Wanted → Type 0
  IsNearWant w = (x : State) × IsNear x × (wanted x ≡ Some w)

-- a state that a move has led to; none for a path that has ended
abbrev pub come_if : Option Consumed → State → List State
come_if None s = []
come_if (Some k) s = s ∷ []

-- the state that a step at a position has come to, unless it has ended
abbrev pub come_by : u.Place → Step → List State
come_by p s = come_if s.taken (state_of s.thread p)

-- the states that steps at a position have come to, the first one last
abbrev pub come_to : u.Place → List Step → List State
come_to p [] = []
come_to p (s ∷ ss) = come_to p ss ++ come_by p s
