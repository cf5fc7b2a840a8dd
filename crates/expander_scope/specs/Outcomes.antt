-- What the code has of an expansion: events, faults and look-ups, with piece-relative spans.
use Rattle.std.specs.Prelude.{ℕ, List, Option, Some, None, map, option_map}
use Rattle.std.specs.Rc.{rc_value}
use Rattle.tt_data.specs.Forest.{Forest}
use Rattle.tt_data.specs.Walk.{Step, at_leaf, opens, closes, walk}
use Rattle.tt_data.specs.declared.span.Span.{Span}
use Rattle.expander_model.specs.Expansion.{PlacedStep, Outcome, placed}
use Rattle.expander_model.specs.Held.{Numbered}
use Rattle.expander_scope.specs.MacroDefs.{numbered_in}
use Rattle.expander_model.specs.declared.fault.FaultKind.{FaultKind}
use Rattle.expander_scope.specs.declared.macro_def.MacroDef.{MacroDef}
use Rattle.expander_scope.specs.declared.outcome.NameLookup.{NameLookup}
use Rattle.expander_scope.specs.declared.outcome.Outcome as held
use Rattle.expander_scope.specs.declared.outcome.Event.{Event}
use Rattle.expander_scope.specs.declared.outcome.EventKind.{EventKind}
use Rattle.expander_scope.specs.declared.outcome.EventKind.TheVariants as own

-- a cached definition, with its id
abbrev pub numbered_of_known : MacroDef → Numbered
numbered_of_known k = numbered_in k.number k.tree.inner

-- a name that was looked up, and what it found
abbrev pub find_of : NameLookup → List ℕ × Option Numbered
find_of f = (f.name, option_map (λ k. numbered_of_known (rc_value k)) f.known)

-- the event that is cached
abbrev pub kind_of : EventKind → Step
kind_of (own.Leaf l) = at_leaf l
kind_of (own.Opens kind span) = opens kind span
kind_of (own.Closes kind span) = closes kind span

-- that event, with the call that it comes from
abbrev pub placed_of : Event → PlacedStep
placed_of s = record { step = kind_of s.kind; outer = s.outer }

-- the parts of an expansion result that are cached
pub record Parts : Type 0 where
  pub steps : List PlacedStep
  pub faults : List (FaultKind × Span)
  pub finds : List (List ℕ × Option Numbered)

-- the parts of an expansion's result
abbrev pub parts_of : Outcome Numbered → Parts
parts_of o = record { steps = o.steps; faults = o.faults; finds = o.finds }

-- the cached events for a tree: if there are none, those of the tree itself
abbrev pub steps_for : Forest → Option (List Event) → List PlacedStep
steps_for tree None = placed None (walk tree)
steps_for tree (Some steps) = map placed_of steps

-- what is cached for a tree
abbrev pub parts_for : Forest → held.Outcome → Parts
parts_for tree o = record {
  steps = steps_for tree (option_map (λ steps. steps.items) o.steps);
  faults = o.faults.items;
  finds = map find_of o.finds.items;
}
