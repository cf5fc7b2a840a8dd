-- What a walk that looks for calls has still to pass, and what is added to a trace.
use Rattle.std.specs.Prelude.{◌≡◌, ◌<◌, ◌+◌, ◌-◌, ℕ, List, [], ◌∷◌, ◌++◌, map, Option, Some, None}
use Rattle.std.specs.Prelude.{if◌then◌else◌}
use Rattle.tt_data.specs.Forest.{Forest, size}
use Rattle.expander_model.specs.Definitions.{Definition}
use Rattle.expander_model.specs.Held.{Numbered, anchored_definition}
use Rattle.expander_model.specs.WalkSteps.{groups_of}
use Rattle.expander_model.specs.declared.scope_rules.ScopeRules.{ScopeRules}
use Rattle.expander_model.specs.declared.tree_walk.Around.{Around}
use Rattle.expander_model.specs.declared.tree_walk.TreeWalk.{TreeWalk}
use Rattle.mbe.specs.Grammar.{Grammar}
use Rattle.expander_scope.specs.ScopeTable.{scope_in}
use Rattle.expander_scope.specs.declared.scope.Scope as table
use Rattle.expander_trace.specs.Numbered.{step_numbered}
use Rattle.tt_data.specs.declared.span.Span.{Span}
use Rattle.expander_trace.specs.Parts.{Part, cut_off, may_define, part_of}
use Rattle.expander_trace.specs.Steps.{Rewrites, Step, call_steps, rewrites, steps_of}
use Rattle.expander_trace.specs.declared.limits.Cut.TheVariants.{Definitions}
use Rattle.expander_trace.specs.declared.step.Trace.{Trace}

-- what definitions with ids do: their tokens have their ids as anchors
abbrev pub numbered_by : Rewrites Definition → Rewrites Numbered
numbered_by by = record {
  broken = λ d. by.broken (anchored_definition d);
  fit = λ d argument. by.fit (anchored_definition d) argument;
  put_out = λ d argument. by.put_out (anchored_definition d) argument;
}

-- what definitions do by this grammar, in the edition of this table
abbrev pub by_table : Grammar → table.Scope → Rewrites Numbered
by_table grammar s = numbered_by (rewrites grammar s.edition)

-- the steps of trees by this grammar, in the scope of this table
abbrev pub steps_under : Grammar → table.Scope → ℕ → ℕ → Option ℕ → Forest → List (Step Numbered)
steps_under grammar s depth level at f = steps_of (by_table grammar s) (scope_in s) depth level at f

-- the steps of a call of this definition
abbrev pub known_steps : Grammar → table.Scope → ℕ → ℕ → Span → List ℕ → Forest → Forest → Numbered
    → List (Step Numbered)
known_steps grammar s depth level name key whole argument d =
    call_steps (by_table grammar s) (scope_in s) level depth
    (steps_under grammar s (depth - 1) (level + 1) None) name key whole argument [] (Some d)

-- a part was added to a trace
pub record IsAdded (old new : Trace) (part : Part Numbered) : Type 0 where
  pub steps_are : map step_numbered new.steps.items
      ≡ map step_numbered old.steps.items ++ part.steps
  pub room_is : new.room ≡ part.room

-- these steps were added to a trace, as far as there is room for them
abbrev pub Adds : ScopeRules → Trace → Trace → List (Step Numbered) → Type 0
Adds rules old new steps = IsAdded old new (part_of rules old.room steps)

-- the part of the steps in what a call gives: none if that may have definitions
abbrev pub below : ScopeRules → Trace → Forest → List (Step Numbered) → Part Numbered
below rules old tree steps = if may_define rules tree then cut_off old.room.left Definitions
    else part_of rules old.room steps

-- the steps in what a call gives were added, unless that may have definitions
abbrev pub AddsBelow : ScopeRules → Trace → Trace → Forest → List (Step Numbered) → Type 0
AddsBelow rules old new tree steps = IsAdded old new (below rules old tree steps)

-- `steps` gives those of trees
module _ (steps : Forest → List (Step Numbered)) where
  -- those behind the innermost group, and so on
  abbrev pub steps_behind : List Around → List (Step Numbered)
  steps_behind [] = []
  steps_behind (a ∷ around) = steps a.behind ++ steps_behind around

  -- those that a walk has still to pass
  abbrev pub steps_left : TreeWalk → List (Step Numbered)
  steps_left w = steps w.here ++ steps_behind (groups_of w)

  -- trees begin with these steps, and go on with other trees, which are fewer
  pub record Begins (f : Forest) (first : List (Step Numbered)) (rest : Forest) : Type 0 where
    pub is : steps f ≡ first ++ steps rest
    pub less : size rest < size f

  -- a call with which trees begin was passed, with its steps
  pub record Passes (rules : ScopeRules) (old new : Trace) (f rest : Forest) : Type 0 where
    pub first : List (Step Numbered)
    pub begins : Begins f first rest
    pub adds : Adds rules old new first

  -- what of all these steps is not left was added
  pub record Goes (rules : ScopeRules) (old now : Trace) (all : List (Step Numbered)) (w : TreeWalk)
      : Type 0 where
    pub before : List (Step Numbered)
    pub is : all ≡ before ++ steps_left w
    pub adds : Adds rules old now before
