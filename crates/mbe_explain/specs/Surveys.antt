-- What the steps and tasks of a survey lead to.
use Rattle.std.specs.Prelude.{◌≡◌, ℕ, Bool, false, List, [], ◌∷◌, ◌++◌, map, reverse, sum_by}
use Rattle.std.specs.Prelude.{Option, Some, None, Result, OnOk, if◌then◌else◌}
use Rattle.std.specs.List.{flat_map}
use Rattle.mbe_rules.specs.Items.{Items}
use Rattle.mbe_matcher.specs.Grammar.{Grammar}
use Rattle.mbe_matcher.specs.Places.{place_after}
use Rattle.mbe_matcher.specs.Settled.{IsCovered, IsGood, IsKept, IsSoundChoice, most_tasks, sorts}
use Rattle.mbe_matcher.specs.Threads.{Waits, contributes, is_some_taken, is_trees}
use Rattle.mbe_matcher.specs.Threads.{made_of, moves_of, state_of}
use Rattle.mbe_matcher.specs.Units as u
use Rattle.mbe_matcher.specs.Waiting.{Each, empties_at, ended, pending}
use Rattle.mbe_matcher.specs.declared.position.Consumed.{Consumed}
use Rattle.mbe_matcher.specs.declared.same_state.Seen.{Seen}
use Rattle.mbe_matcher.specs.declared.step.Choice.{Choice}
use Rattle.mbe_matcher.specs.declared.thread.Thread.{Thread}
use Rattle.mbe_explain.specs.declared.explain.StopKind.{StopKind}
use Rattle.mbe_explain.specs.declared.explain.StopKind.TheVariants.{Matches, TwoReadings, Unread}
use Rattle.mbe_explain.specs.declared.step.Step.{Step}
use Rattle.mbe_explain.specs.declared.survey.Survey.{Survey}
use Rattle.mbe_explain.specs.declared.survey.Task.{Task}
use Rattle.mbe_explain.specs.declared.survey.Task.TheVariants.{GoOn, Note}

-- the choice that a step is
abbrev pub choice_of : Step → Choice
choice_of s = record { thread = s.thread; taken = s.taken }

-- a thread waits at the end, or after a move that consumed this at a position
abbrev pub waits_if : Thread → u.Place → Option Consumed → Waits
waits_if t p None = ended (moves_of t.moves)
waits_if t p (Some k) =
    pending (moves_of t.moves) (is_trees (Some k)) (state_of t (place_after p (Some k)))

-- a thread waits at the end, or after a move that consumed this and led to a position
abbrev pub comes_if : Thread → u.Place → Option Consumed → Waits
comes_if t p None = ended (moves_of t.moves)
comes_if t p (Some k) = pending (moves_of t.moves) (is_trees (Some k)) (state_of t p)

-- the path that a step waits with, whose last move was made at a position
abbrev pub waits_by : u.Place → Step → Waits
waits_by p s = waits_if s.thread p s.taken

-- the path that a step waits with, whose last move led to a position
abbrev pub comes_by : u.Place → Step → Waits
comes_by p s = comes_if s.thread p s.taken

-- the paths that steps wait with, whose last moves were made at a position
abbrev pub waits_of : u.Place → List Step → List Waits
waits_of p ss = map (waits_by p) ss

-- the paths that steps wait with, whose last moves led to a position
abbrev pub comes_of : u.Place → List Step → List Waits
comes_of p ss = map (comes_by p) ss

-- whether a fragment was consumed, if anything was
abbrev pub takings_if : Option Consumed → List Bool
takings_if None = []
takings_if (Some k) = is_trees (Some k) ∷ []

-- whether a fragment was consumed, for each step that has consumed something
abbrev pub takings_of : List Step → List Bool
takings_of ss = flat_map (λ s. takings_if s.taken) ss

-- this, or else what comes otherwise
abbrev pub first_or : Option Consumed → Option Consumed → Option Consumed
first_or None o = o
first_or (Some k) o = Some k

-- what the first of these has consumed that has consumed something
abbrev pub head_taken : List Step → Option Consumed
head_taken [] = None
head_taken (s ∷ ss) = first_or s.taken (head_taken ss)

-- the task of a step, if there is one
abbrev pub planned : Option Step → List Task
planned None = []
planned (Some s) = GoOn s ∷ []

module _ (p : u.Place) where
  -- how many tasks come at most of a task, itself included
  abbrev pub tasks_of : Task → ℕ
  tasks_of (Note x) = 1
  tasks_of (GoOn s) =
      if is_some_taken s.taken then 1 else most_tasks (empties_at (state_of s.thread p))

  -- how many come of all
  abbrev pub tasks_of_all : List Task → ℕ
  tasks_of_all ts = sum_by tasks_of ts

  -- a step whose last move consumed nothing is in a good state
  abbrev pub HasEnd : Task → Type 0
  HasEnd (Note x) = Unit {0}
  HasEnd (GoOn s) = is_some_taken s.taken ≡ false → IsGood (state_of s.thread p)

module _ (gr : Grammar) (pattern : Items) (p : u.Place) where
  -- the tasks, the next one first, lead from these paths to all
  abbrev pub IsDue : List Waits → List Task → List Waits → Type 0
  IsDue found [] all = found ≡ all
  IsDue found (GoOn s ∷ ts) all =
      IsSoundChoice pattern p (choice_of s)
      × IsDue (found ++ contributes gr (made_of p (choice_of s))) ts all
  IsDue found (Note x ∷ ts) all = IsCovered gr pattern p (sorts found) x × IsDue found ts all

  -- paths that wait, states that were entered, and tasks that are left, the last one next, lead
  -- to all these paths
  abbrev pub Leads : List Waits → List Waits → List Seen → List Task → Type 0
  Leads all ws seen ts =
      (found : List Waits) × IsKept [] found ws × Each (IsCovered gr pattern p (sorts found)) seen
      × IsDue found (reverse ts) all

  -- a survey with these tasks leads to all these paths
  abbrev pub Surveys : List Waits → Survey → List Task → Type 0
  Surveys all x ts = Leads all (waits_of p x.waiting.items) x.seen ts

module _ (gr : Grammar) (p : u.Place) where
  -- on `Ok`, the new survey leads to all paths that the old one leads to with these tasks
  abbrev pub LeadsOnOk : {A E : Type 0} → Survey → List Task → Result A E → Survey → Type 0
  LeadsOnOk old ts result new =
      (pattern : Items) (all : List Waits) → Surveys gr pattern p all old ts →
      OnOk result (Surveys gr pattern p all new new.tasks.items)

-- why readings stop where these have ended, and no other waits
abbrev pub kind_at_end : List Step → StopKind
kind_at_end [] = Unread
kind_at_end (a ∷ []) = Matches
kind_at_end (a ∷ b ∷ ss) = TwoReadings
