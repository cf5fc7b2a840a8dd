-- What is left of the limits of an outermost call while it is expanded, and what a search gives
-- that stops where one is passed.
use Rattle.std.specs.Prelude.{◌≡◌, ℕ, ◌-◌, Bool, true, ◌||◌, List, [], ◌∷◌, ◌++◌, map, nat_lt}
use Rattle.std.specs.Prelude.{Option, Some, None, option_map, if◌then◌else◌}
use Rattle.tt_data.specs.declared.span.Span.{Span}
use Rattle.expander_model.specs.Definitions.{Definition}
use Rattle.expander_model.specs.Expansion.{Outcome, PlacedStep}
use Rattle.expander_model.specs.Held.{Numbered}
use Rattle.expander_model.specs.Limits.{Noted, Notes, Passed, burst, definition, sized, tried}
use Rattle.expander_model.specs.Limits.{until_passed}
use Rattle.expander_model.specs.Scoping.{Scoped}
use Rattle.expander_model.specs.declared.fault.FaultKind.{FaultKind}
use Rattle.expander_model.specs.declared.limits.Limits.{Limits}
use Rattle.expander_scope.specs.Expanding.{Adds}
use Rattle.expander_scope.specs.LocalTables.{locals_of}
use Rattle.expander_scope.specs.Outcomes.{find_of}
use Rattle.expander_scope.specs.Sinks.{TakesMore}
use Rattle.expander_scope.specs.declared.expand.search.Search.{Search}

-- a limit is passed by so many calls or tokens more
abbrev pub is_passed : Limits → (calls tokens : ℕ) → Bool
is_passed limits c n = nat_lt limits.calls c || nat_lt limits.tokens n

-- what is left behind them
abbrev pub less_by : Limits → (calls tokens : ℕ) → Limits
less_by limits c n = record { calls = limits.calls - c; tokens = limits.tokens - n }

-- what is left behind these notes, if no limit is passed in them
abbrev pub limits_behind : Limits → Notes Numbered → Option Limits
limits_behind limits [] = Some limits
limits_behind limits ((key, Some (tried c n)) ∷ notes) =
    if is_passed limits c n then None else limits_behind (less_by limits c n) notes
limits_behind limits ((key, Some burst) ∷ notes) = limits_behind limits notes
limits_behind limits ((key, Some (definition d)) ∷ notes) = limits_behind limits notes
limits_behind limits ((key, None) ∷ notes) = limits_behind limits notes

-- the same by limits or without
abbrev pub left_behind : Option Limits → Notes Numbered → Option (Option Limits)
left_behind None notes = Some None
left_behind (Some limits) notes = option_map Some (limits_behind limits notes)

-- no limit is passed in these notes, and so much is left behind them
abbrev pub Spends : Option Limits → Option Limits → Notes Numbered → Type 0
Spends before after notes = left_behind before notes ≡ Some after

-- what comes before a limit is passed in these notes, or none is passed
abbrev pub passing : Option Limits → Notes Numbered → Option (Passed Numbered)
passing None notes = None
passing (Some limits) notes = until_passed limits.calls limits.tokens notes

-- a rule puts out too many tokens before a limit is passed, whatever follows these notes
abbrev pub BurstsFirst : Option Limits → Notes Numbered → Type 0
BurstsFirst limits notes = (more : Notes Numbered) (p : Passed Numbered) →
    passing limits (notes ++ more) ≡ Some p → p.bursts ≡ true

-- a rule puts out too many tokens, before a limit is passed
abbrev pub BurstsIn : Option Limits → Outcome (Noted Numbered) → Type 0
BurstsIn limits o = (o.bursts ≡ true) × BurstsFirst limits o.finds

-- the notes of a call that is replaced, for which rules put out so many tokens: its own, and those
-- in its result
abbrev pub notes_with : ℕ → Notes Numbered → Notes Numbered
notes_with n notes = sized 1 n ++ notes

-- the same search with so much left
abbrev pub with_left : {S : Type 0} → Search S → Option Limits → Search S
with_left search left = record search { left = left }

-- `Has` tells which events a sink has taken
module _ {S : Type 0} (Has : S → List PlacedStep → Type 0) where
  -- a result was added, with these notes
  pub record Searched (old new : Search S) (a : Scoped (Noted Numbered)) (notes : Notes Numbered)
      : Type 0 where
    pub adds : Adds Has old.out new.out a.outcome
    pub locals : locals_of new.locals ≡ a.defines ++ locals_of old.locals
    pub spends : Spends old.left new.left notes

  -- the search stopped where a limit is passed in these notes, with the look-ups until then. What
  -- else it added can be taken back
  pub record Stops (old new : Search S) (notes : Notes Numbered) : Type 0 where
    pub passed : Passed Numbered
    pub is : passing old.left notes ≡ Some passed
    pub finds : map find_of new.out.finds.items ≡ map find_of old.out.finds.items ++ passed.finds
    pub steps : List PlacedStep
    pub takes : TakesMore Has old.out.output new.out.output steps
    pub told : List (FaultKind × Span)
    pub faults : new.out.faults.items ≡ old.out.faults.items ++ told
    pub front : List Definition
    pub locals : locals_of new.locals ≡ front ++ locals_of old.locals

  -- it was taken back: all but the look-ups until a limit is passed
  pub record TakesBack (limits : Option Limits) (old new : Search S) (notes : Notes Numbered)
      : Type 0 where
    pub passed : Passed Numbered
    pub is : passing limits notes ≡ Some passed
    pub finds : map find_of new.out.finds.items ≡ map find_of old.out.finds.items ++ passed.finds
    pub takes : TakesMore Has old.out.output new.out.output []
    pub faults : new.out.faults.items ≡ old.out.faults.items
    pub locals : locals_of new.locals ≡ locals_of old.locals
    pub left : new.left ≡ old.left
