-- What the steps of trees say of their expansion. (Of this project.)
use Rattle.std.specs.Prelude.{◌≡◌, ℕ, zero, suc, List, [], ◌∷◌, map, Option, Some, None}
use Rattle.std.specs.Prelude.{option_map, Result, Ok, Err}
use Rattle.tt_data.specs.Forest.{Forest, empty, leaf, group, joined}
use Rattle.tt_data.specs.Walk.{Step as Event}
use Rattle.expander_model.specs.Calls.{other, Marked, none, token, inside, call, marked, unmarked}
use Rattle.expander_model.specs.Expansion.{Outcome, PlacedStep, World, whole_call}
use Rattle.expander_model.specs.declared.fault.FaultKind.{FaultKind}
use Rattle.expander_trace.specs.Steps.{Attempt, Rewrites, Step}

-- definitions do what they mean in a world: the same are invalid, and rules give the same
pub record DoAs {D : Type 0} (by : Rewrites D) (world : World D) : Type 0 where
  pub broken : (d : D) → world.broken d ≡ by.broken d
  pub fit : (d : D) (argument : Forest)
      → world.fit d argument ≡ option_map (λ g. g.1) (by.fit d argument)

-- what a step looks up, and what it finds
abbrev pub find_of : {D : Type 0} → Step D → List ℕ × Option D
find_of s = (s.key, option_map (λ a. a.definition) s.attempt)

-- the fault for which a call stays, if it stays for one
abbrev pub given_faults : Result (ℕ × Forest) FaultKind → List FaultKind
given_faults (Err kind) = kind ∷ []
given_faults (Ok given) = []

abbrev pub faults_of : {D : Type 0} → Option (Attempt D) → List FaultKind
faults_of None = []
faults_of (Some a) = given_faults a.given

-- the events of an expansion, without the calls that they come from
abbrev pub events_of : {D : Type 0} → Outcome D → List Event
events_of o = map (λ (s : PlacedStep). s.step) o.steps

-- trees, and the steps that are left behind them
abbrev pub Substituted : Type 0 → Type 0
Substituted D = Forest × List (Step D)

-- the same with the trees changed
abbrev pub map_trees : {D : Type 0} → (Forest → Forest) → Substituted D → Substituted D
map_trees f p = (f p.0, p.1)

-- what substitutes the results of steps for calls of trees, one for each from left to right
abbrev pub Substitution : Type 0 → Type 0
Substitution D = Forest → List (Step D) → Substituted D

module _ {D : Type 0} (deeper : Substitution D) where
  -- a call of a definition: what it gives is in its place, if it gives something
  abbrev pub substitute_given : Forest → Result (ℕ × Forest) FaultKind → List (Step D)
      → Substituted D
  substitute_given whole (Err kind) steps = (whole, steps)
  substitute_given whole (Ok given) steps = deeper given.1 steps

  -- a call by its step: `kept` substitutes in its group
  abbrev pub substitute_call : Forest → (List (Step D) → Substituted D) → List (Step D)
      → Substituted D
  substitute_call whole kept [] = (whole, [])
  substitute_call whole kept (s ∷ steps) = elim s.attempt [
    | None ↦ kept steps
    | Some a ↦ substitute_given whole a.given steps
  ]

  -- trees whose calls are marked, each replaced by the result of its step
  abbrev pub substitute_marked : Marked → List (Step D) → Substituted D
  substitute_marked none steps = (empty, steps)
  substitute_marked (token l rest) steps = map_trees (leaf l) (substitute_marked rest steps)
  substitute_marked (inside d a rest) steps =
      let inner : Substituted D = substitute_marked a steps in
      map_trees (group d inner.0) (substitute_marked rest inner.1)
  substitute_marked (call (other first second) name bang d a rest) steps =
      let inner : Substituted D = substitute_marked a steps in
      map_trees (joined (whole_call (other first second) name bang d inner.0))
      (substitute_marked rest inner.1)
  substitute_marked (call path name bang d a rest) steps =
      let here : Substituted D =
      substitute_call (whole_call path name bang d (unmarked a))
      (λ more. map_trees (whole_call path name bang d) (substitute_marked a more)) steps in
      map_trees (joined here.0) (substitute_marked rest here.1)

-- trees with the result of each step in the place of its call, level by level
abbrev pub substitute_steps : {D : Type 0} → ℕ → Substitution D
substitute_steps zero f steps = substitute_marked (λ g more. (g, more)) (marked f) steps
substitute_steps (suc n) f steps = substitute_marked (substitute_steps n) (marked f) steps
