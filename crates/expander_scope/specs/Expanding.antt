-- The search of lists for calls, in a tree with piece-relative spans, and what it adds to an
-- output.
use Rattle.std.specs.Prelude.{◌≡◌, ℕ, zero, suc, ◌-◌, Bool, false, ◌&&◌, not, List, [], ◌∷◌, ◌++◌}
use Rattle.std.specs.Prelude.{map, Option, Some, None, option_map, Result, Ok, Err, if◌then◌else◌}
use Rattle.tt_data.specs.Forest.{Forest, size}
use Rattle.tt_data.specs.Walk.{walk}
use Rattle.tt.specs.Tops.{Top}
use Rattle.expander_scope.specs.declared.outcome.Expanding.{Expanding}
use Rattle.expander_model.specs.declared.fault.FaultKind.{FaultKind}
use Rattle.expander_model.specs.declared.fault.FaultKind.TheVariants.{CannotExpand}
use Rattle.expander_model.specs.declared.fault.FaultKind.TheVariants.{BrokenDefinition}
use Rattle.expander_model.specs.declared.fault.FaultKind.TheVariants.{RecursionLimit}
use Rattle.expander_model.specs.Changes.{find_with}
use Rattle.expander_model.specs.Expansion.{World, Outcome, PlacedStep, just}
use Rattle.expander_model.specs.Definitions.{Definition}
use Rattle.expander_model.specs.Scoping.{Around, Attempt, Expander, Scoped, Search, defined, only}
use Rattle.expander_model.specs.Limits.{Noted, Notes, calls_of, definition, limited, looked_in}
use Rattle.expander_model.specs.Limits.{noted, noted_attempt, noted_list, noted_world, sized}
use Rattle.expander_model.specs.declared.limits.Limits.{Limits}
use Rattle.expander_model.specs.declared.scope_rules.Standing.{Standing}
use Rattle.expander_scope.specs.LocalTables.{locals_of}
use Rattle.expander_scope.specs.declared.locals.Locals.{Locals}
use Rattle.tt_data.specs.declared.span.Span.{Span}
use Rattle.expander_model.specs.declared.dialect.Dialect.{Dialect}
use Rattle.expander_model.specs.Held.{Numbered, numbered_world, unnumbered}
use Rattle.expander_model.specs.World.{world}
use Rattle.expander_model.specs.mbe.Grammar.{Grammar}
use Rattle.expander_scope.specs.ScopeTable.{scope_in}
use Rattle.expander_scope.specs.declared.scope.Scope as table
use Rattle.expander_scope.specs.Outcomes.{find_of}
use Rattle.expander_scope.specs.Sinks.{TakesMore}

-- the result of a call of a valid definition with so many levels left, where `given` is what its
-- first rule that fits transcribes; or the fault
abbrev pub answer_at : ℕ → Option Forest → Result Forest FaultKind
answer_at zero given = Err RecursionLimit
answer_at (suc n) None = Err CannotExpand
answer_at (suc n) (Some result) = Ok result

-- the note of a call of a valid definition with so many levels left, which gives this or nothing,
-- and for which rules put out so many tokens
abbrev pub trial_at : ℕ → Option Forest → ℕ → Notes Numbered
trial_at zero given tokens = []
trial_at (suc n) given tokens = sized (calls_of given) tokens

-- a definition of a list, where notes are among definitions
abbrev pub noted_local : Definition → Noted Numbered
noted_local d = definition (unnumbered d)

-- what names find there
abbrev pub noted_scope : (List ℕ → Option Numbered) → List ℕ → Option (Noted Numbered)
noted_scope scope key = option_map definition (scope key)

-- how many levels of calls may be expanded, and how much each call in a list may make, or no limit
pub record Levels : Type 0 where
  pub depth : ℕ
  pub limits : Option Limits

-- limits are of outermost calls: in a list that comes of a call there are none
abbrev pub limits_at : Dialect → Option Span → Option Limits
limits_at dialect None = dialect.limits
limits_at dialect (Some at) = None

-- what is left where a call begins: all that the dialect allows, or in what comes of another call
-- what that one has left
abbrev pub limits_for : Dialect → Option Span → Option Limits → Option Limits
limits_for dialect None left = dialect.limits
limits_for dialect (Some at) left = left

-- what is left behind a call, if this was left of its limits: outside of all calls there are none
abbrev pub left_within : Option Span → Option Limits → Option Limits
left_within None left = None
left_within (Some at) left = left

abbrev pub levels_at : Dialect → ℕ → Option Span → Levels
levels_at dialect depth outer = record { depth = depth; limits = limits_at dialect outer }

-- those of a result: one less is left
abbrev pub levels_in : Levels → Levels
levels_in levels = record { depth = levels.depth - 1; limits = None }

-- look-ups among notes
abbrev pub among_notes : List (List ℕ × Option Numbered) → Notes Numbered
among_notes xs = map (find_with definition) xs

-- a result, its look-ups as notes
abbrev pub as_noted : Scoped Numbered → Scoped (Noted Numbered)
as_noted a = record {
  outcome = record {
    steps = a.outcome.steps;
    faults = a.outcome.faults;
    finds = among_notes a.outcome.finds;
    bursts = a.outcome.bursts;
  };
  defines = a.defines;
}

-- what expands calls, where notes are among definitions
abbrev pub noted_by : Expander Numbered → Expander (Noted Numbered)
noted_by expand (definition d) around site =
    let a : Attempt Numbered = expand d around site in
    record { replaces = a.replaces; given = as_noted a.given }
noted_by expand _ around site = record { replaces = false; given = only (just around.outer []) }

module _ (dialect : Dialect) (world : World Numbered) where
  -- how calls are expanded with so many levels left, with notes: not at all with none
  abbrev pub expander_by : (List ℕ → Option Numbered) → Option Limits → ℕ
      → Option (Expander (Noted Numbered))
  expander_by scope limits zero = None
  expander_by scope None (suc n) =
      Some (noted_attempt dialect world unnumbered scope (noted dialect world unnumbered scope n))
  expander_by scope (Some limits) (suc n) =
      Some (noted_by (limited dialect world unnumbered scope limits n))

  abbrev pub deeper_at : (List ℕ → Option Numbered) → Levels → Option (Expander (Noted Numbered))
  deeper_at scope levels = expander_by scope levels.limits levels.depth

  -- the search of a list with so many levels left, with notes
  abbrev pub searched : (List ℕ → Option Numbered) → Levels → Search (Noted Numbered)
  searched scope levels around f =
      noted_list dialect world unnumbered scope (deeper_at scope levels) (suc (size f)) around f

module _ (world : World Numbered) where
  -- the result of a call with so many levels left, or the fault for which the call stays
  abbrev pub answer : Numbered → ℕ → Forest → Result Forest FaultKind
  answer d depth argument = if world.broken d then Err BrokenDefinition
      else answer_at depth (world.fit d argument)

  -- the note of a call with so many levels left, which is there if it is tried
  abbrev pub trial : Numbered → ℕ → Forest → Notes Numbered
  trial d depth argument = if world.broken d then []
      else trial_at depth (world.fit d argument) (world.put_out d argument)

  -- a rule of the definition is tried, and puts out too many tokens
  abbrev pub makes_too_many : Numbered → ℕ → Forest → Bool
  makes_too_many d zero argument = false
  makes_too_many d (suc n) argument = not (world.broken d) && world.bursts d argument

-- what a definition means by this grammar and dialect, in the edition of this table
abbrev pub world_under : Grammar → table.Scope → Dialect → World Numbered
world_under grammar s dialect = numbered_world (world grammar s.edition dialect)

-- the search of a list by this grammar and dialect, in the scope of this table
abbrev pub searched_under : Grammar → table.Scope → Dialect → ℕ → Search (Noted Numbered)
searched_under grammar s dialect depth around f =
    searched dialect (world_under grammar s dialect) (scope_in s)
    (levels_at dialect depth around.outer) around f

-- what a definition of a list adds and prints by this grammar and dialect, in the scope of this
-- table
abbrev pub defined_under : Grammar → table.Scope → Dialect → Around → Definition
    → Scoped (Noted Numbered)
defined_under grammar s dialect around d =
    defined dialect (noted_world (world_under grammar s dialect)) noted_local
    (noted_scope (scope_in s)) around d

-- a list with these definitions around
abbrev pub around_in : Standing → Option Span → Locals → Around
around_in standing outer locals =
    record { standing = standing; outer = outer; locals = locals_of locals }

-- a list in these surroundings by this grammar and dialect, in the scope of this table
abbrev pub list_under : Grammar → table.Scope → Dialect → ℕ → Standing → Option Span → Locals
    → Forest → Scoped (Noted Numbered)
list_under grammar s dialect depth standing outer locals f =
    searched_under grammar s dialect depth (around_in standing outer locals) f

-- what a call at this place gives, with a level less
abbrev pub result_under : Grammar → table.Scope → Dialect → ℕ → Standing → Span → Locals → Forest
    → Scoped (Noted Numbered)
result_under grammar s dialect depth standing at locals f =
    list_under grammar s dialect (depth - 1) standing (Some at) locals f

-- the faults that are told of a call that stays
abbrev pub told_once : Option (FaultKind × Span) → List (FaultKind × Span)
told_once None = []
told_once (Some fault) = fault ∷ []

-- a call that stays, of which this is told: it is as it was written
abbrev pub stays_for : Option (FaultKind × Span) → Option Span → Forest → Outcome (Noted Numbered)
stays_for told outer whole =
    let kept : Outcome (Noted Numbered) = just outer (walk whole) in
    record kept { faults = told_once told }

-- the trees of a result, or the fault
abbrev pub trees_of : Result Top FaultKind → Result Forest FaultKind
trees_of (Ok top) = Ok top.inner
trees_of (Err kind) = Err kind

-- `Has` tells which events a sink has taken
module _ {S : Type 0} (Has : S → List PlacedStep → Type 0) where
  -- an expansion result is appended to the output, without its notes
  pub record Adds (old new : Expanding S) (o : Outcome (Noted Numbered)) : Type 0 where
    pub steps : TakesMore Has old.output new.output o.steps
    pub faults : new.faults.items ≡ old.faults.items ++ o.faults
    pub finds : map find_of new.finds.items ≡ map find_of old.finds.items ++ looked_in o.finds

  -- a sink has taken an expansion result's events after all earlier ones; its faults and look-ups
  -- are these
  pub record Expands (old : S) (new : Expanding S) (o : Outcome Numbered) : Type 0 where
    pub steps : TakesMore Has old new.output o.steps
    pub faults : new.faults.items ≡ o.faults
    pub finds : map find_of new.finds.items ≡ o.finds
