-- The paths that wait at a position, where at most two of a sort are kept.
use Rattle.std.specs.Prelude.{◌≡◌, ◌⊎◌, ℕ, zero, suc, ◌+◌, ◌*◌, Bool, true, false, List, [], ◌∷◌, ◌++◌, map, reverse, sum_by, Option, Some, None, if◌then◌else◌}
use Rattle.mbe_rules.specs.Items.{Items}
use Rattle.mbe_matcher.specs.Grammar.{Grammar}
use Rattle.mbe_matcher.specs.Paths.{IsAmong}
use Rattle.mbe_matcher.specs.Positions.{IsIn}
use Rattle.mbe_matcher.specs.Readings as r
use Rattle.mbe_matcher.specs.Threads.{Waits, waits, contributes, made_of, is_some_taken, state_of}
use Rattle.mbe_matcher.specs.Units as u
use Rattle.mbe_matcher.specs.Waiting.{Waiting, ended, pending, settled_at, empties_at, Good, Each}
use Rattle.mbe_matcher.specs.declared.step.Choice.{Choice}
use Rattle.mbe_matcher.specs.declared.step.Waiting as d
use Rattle.mbe_matcher.specs.declared.same_state.Seen.{Seen}
use Rattle.mbe_matcher.specs.declared.matcher.SettleTask.{SettleTask}
use Rattle.mbe_matcher.specs.declared.matcher.SettleTask.TheVariants.{GoOn, Note}
use Rattle.mbe_matcher.specs.declared.thread.Thread.{Thread}

-- ---- what is kept

-- an element occurs twice in a list
abbrev pub IsTwice : {A : Type 0} → A → List A → Type 0
IsTwice x [] = ⊥
IsTwice x (y ∷ ys) = ((y ≡ x) × IsAmong x ys) ⊎ IsTwice x ys

-- it occurs once, or twice
abbrev pub Stands : {A : Type 0} → Bool → A → List A → Type 0
Stands true x xs = IsTwice x xs
Stands false x xs = IsAmong x xs

module _ {M S : Type 0} where
  -- what a path waits with, without its moves
  abbrev pub sort_of : Waiting M S → Option (Bool × S)
  sort_of (ended ms) = None
  sort_of (pending ms b t) = Some (b, t)

  -- what all paths wait with, without their moves
  abbrev pub sorts : List (Waiting M S) → List (Option (Bool × S))
  sorts ws = map sort_of ws

  -- what is kept of all after some: a path that is dropped is of a sort that two before it have
  abbrev pub IsKept : (before all kept : List (Waiting M S)) → Type 0
  IsKept before [] kept = kept ≡ []
  IsKept before (w ∷ all) kept =
      ((rest : List (Waiting M S)) × (kept ≡ w ∷ rest) × IsKept (before ++ (w ∷ [])) all rest)
      ⊎ (IsTwice (sort_of w) (sorts before) × IsKept (before ++ (w ∷ [])) all kept)

-- ---- the tasks that are left

-- how many tasks come at most of a state from which at most e moves in a row consume nothing
abbrev pub most_tasks : ℕ → ℕ
most_tasks zero = 4
most_tasks (suc e) = 2 * most_tasks e + 2

-- a state in which no repetition iterates without end
abbrev pub IsGood : r.State → Type 0
IsGood s = (N : ℕ) × Good N s

module _ (p : u.Place) where
  -- how many tasks come at most of a task, itself included
  abbrev pub tasks_of : SettleTask → ℕ
  tasks_of (Note x) = 1
  tasks_of (GoOn c) = if is_some_taken c.taken then 1 else most_tasks (empties_at (state_of c.thread p))

  abbrev pub tasks_of_all : List SettleTask → ℕ
  tasks_of_all ts = sum_by tasks_of ts

  -- a choice whose move consumes nothing leads to a good state
  abbrev pub HasEnd : SettleTask → Type 0
  HasEnd (Note x) = Unit {0}
  HasEnd (GoOn c) = is_some_taken c.taken ≡ false → IsGood (state_of c.thread p)

-- the task of a choice, if there is one
abbrev pub planned : Option Choice → List SettleTask
planned None = []
planned (Some c) = GoOn c ∷ []

-- the task to go on with a thread, if there is one
abbrev pub going_on : Option Thread → List SettleTask
going_on None = []
going_on (Some t) = GoOn (record { thread = t; taken = None }) ∷ []

-- a state of the matcher, in which no repetition iterates without end
abbrev pub IsSound : Items → r.State → Type 0
IsSound pattern s = Good (r.room pattern) s × IsIn pattern s

-- a choice whose move consumes nothing leads to such a state
abbrev pub IsSoundChoice : Items → u.Place → Choice → Type 0
IsSoundChoice pattern p c = is_some_taken c.taken ≡ false → IsSound pattern (state_of c.thread p)

-- a waiting path goes on with such a state
abbrev pub IsSoundAt : Items → Waits → Type 0
IsSoundAt pattern (ended ms) = Unit {0}
IsSoundAt pattern (pending ms b s) = IsSound pattern s

module _ (gr : Grammar) (pattern : Items) (p : u.Place) where
  -- all that waits after a state of the matcher is of these sorts, twice if it was settled twice
  abbrev pub IsCovered : List (Option (Bool × r.State)) → Seen → Type 0
  IsCovered found x =
      IsIn pattern (state_of x.thread p)
      × ((k : Option (Bool × r.State)) → IsAmong k (sorts (settled_at gr (state_of x.thread p))) → Stands x.twice k found)

  -- the tasks, the next one first, lead from these paths to all
  abbrev pub IsDue : List Waits → List SettleTask → List Waits → Type 0
  IsDue found [] all = found ≡ all
  IsDue found (GoOn c ∷ ts) all = IsSoundChoice pattern p c × IsDue (found ++ contributes gr (made_of p c)) ts all
  IsDue found (Note x ∷ ts) all = IsCovered (sorts found) x × IsDue found ts all

  -- waiting threads, settled states and tasks left, the last one next, lead to all these paths
  abbrev pub Leads : List Waits → List d.Waiting → List Seen → List SettleTask → Type 0
  Leads all ws seen ts =
      (found : List Waits) × IsKept [] found (waits p ws) × Each (IsCovered (sorts found)) seen × IsDue found (reverse ts) all
