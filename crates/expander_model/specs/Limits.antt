-- How much one outermost call may make: how many calls are replaced for it, itself among them, and
-- how many tokens rules put out for it: for each call that is tried, those of the rules up to the
-- first that fits, be the call replaced or not. (Of this project.)
use Rattle.std.specs.Prelude.{ℕ, zero, suc, ◌-◌, Bool, true, false, ◌||◌, List, [], ◌∷◌, ◌++◌, Option, Some, None, option_map, nat_lt, if◌then◌else◌}
use Rattle.tt_data.specs.Forest.{Forest, size}
use Rattle.expander_model.specs.Definitions.{Definition}
use Rattle.expander_model.specs.Expansion.{World, Outcome, CallSite, stays}
use Rattle.expander_model.specs.declared.dialect.Dialect.{Dialect}
use Rattle.expander_model.specs.declared.fault.FaultKind.TheVariants.{TooLarge}
use Rattle.expander_model.specs.declared.limits.Limits.{Limits}
use Rattle.expander_model.specs.declared.scope_rules.Standing.TheVariants.{Top}
use Rattle.expander_model.specs.Scoping.{Around, Scoped, Search, Attempt, Expander, attempt, only, scoped, search_list, without_locals}

-- what is noted of an expansion, in order, beside what it looks up: of each call that is tried, for
-- how many calls it counts and how many tokens rules put out for it; and each call for which a rule
-- puts out more tokens than a tree may have
pub data Noted (D : Type 0) : Type 0 where
  definition : D → Noted D
  tried : (calls tokens : ℕ) → Noted D
  burst : Noted D

-- what definitions mean, where notes are among them: a note is no macro
abbrev pub noted_broken : {D : Type 0} → World D → Noted D → Bool
noted_broken world (definition d) = world.broken d
noted_broken world _ = false

abbrev pub noted_fit : {D : Type 0} → World D → Noted D → Forest → Option Forest
noted_fit world (definition d) argument = world.fit d argument
noted_fit world _ argument = None

abbrev pub noted_put_out : {D : Type 0} → World D → Noted D → Forest → ℕ
noted_put_out world (definition d) argument = world.put_out d argument
noted_put_out world _ argument = 0

abbrev pub noted_bursts : {D : Type 0} → World D → Noted D → Forest → Bool
noted_bursts world (definition d) argument = world.bursts d argument
noted_bursts world _ argument = false

-- that world
abbrev pub noted_world : {D : Type 0} → World D → World (Noted D)
noted_world world = record {
  broken = noted_broken world;
  fit = noted_fit world;
  put_out = noted_put_out world;
  bursts = noted_bursts world;
  dialect = world.dialect;
}

-- look-ups and notes, in order
abbrev pub Notes : Type 0 → Type 0
Notes D = List (List ℕ × Option (Noted D))

-- for how many calls one counts that gives this or nothing
abbrev pub calls_of : Option Forest → ℕ
calls_of None = 0
calls_of (Some f) = 1

-- the note of a call that counts for so many, and for which rules put out so many tokens
abbrev pub sized : {D : Type 0} → (calls tokens : ℕ) → Notes D
sized calls tokens = ([], Some (tried calls tokens)) ∷ []

-- the notes of a call for which a rule puts out too much or not, which gives this or nothing, and
-- for which rules put out so many tokens
abbrev pub note_of : {D : Type 0} → Bool → Option Forest → ℕ → Notes D
note_of true given tokens = ([], Some burst) ∷ sized (calls_of given) tokens
note_of false given tokens = sized (calls_of given) tokens

-- a result with notes before its own
abbrev pub noting : {D : Type 0} → Notes D → Scoped (Noted D) → Scoped (Noted D)
noting {D} notes a =
    let o : Outcome (Noted D) = a.outcome in
    record a { outcome = record o { finds = notes ++ o.finds } }

-- the look-ups among notes
abbrev pub looked_in : {D : Type 0} → Notes D → List (List ℕ × Option D)
looked_in [] = []
looked_in ((key, Some (definition d)) ∷ notes) = (key, Some d) ∷ looked_in notes
looked_in ((key, Some (tried c n)) ∷ notes) = looked_in notes
looked_in ((key, Some burst) ∷ notes) = looked_in notes
looked_in ((key, None) ∷ notes) = (key, None) ∷ looked_in notes

-- a result without its notes
abbrev pub unnoted : {D : Type 0} → Scoped (Noted D) → Scoped D
unnoted a = record {
  outcome = record {
    steps = a.outcome.steps;
    faults = a.outcome.faults;
    finds = looked_in a.outcome.finds;
    bursts = a.outcome.bursts;
  };
  defines = a.defines;
}

-- what comes before a limit is passed: the look-ups, and whether a rule puts out more tokens than
-- a tree may have
pub record Passed (D : Type 0) : Type 0 where
  pub finds : List (List ℕ × Option D)
  pub bursts : Bool

-- nothing comes before
abbrev pub passed_at_once : {D : Type 0} → Passed D
passed_at_once = record { finds = []; bursts = false }

abbrev pub found_before : {D : Type 0} → (List ℕ × Option D) → Passed D → Passed D
found_before find p = record p { finds = find ∷ p.finds }

abbrev pub burst_before : {D : Type 0} → Passed D → Passed D
burst_before p = record p { bursts = true }

-- what comes before a limit is passed, where so many calls and tokens are left; or none is passed
abbrev pub until_passed : {D : Type 0} → ℕ → ℕ → Notes D → Option (Passed D)
until_passed calls tokens [] = None
until_passed calls tokens ((key, Some burst) ∷ notes) =
    option_map burst_before (until_passed calls tokens notes)
until_passed calls tokens ((key, Some (tried c n)) ∷ notes) =
    if nat_lt calls c || nat_lt tokens n then Some passed_at_once
    else until_passed (calls - c) (tokens - n) notes
until_passed calls tokens ((key, Some (definition d)) ∷ notes) =
    option_map (found_before (key, Some d)) (until_passed calls tokens notes)
until_passed calls tokens ((key, None) ∷ notes) =
    option_map (found_before (key, None)) (until_passed calls tokens notes)

-- an attempt at a call: where a limit is passed the call stays, its argument not searched, with
-- its look-ups until then
abbrev pub within : {D : Type 0} → Option (Passed D) → Around → CallSite → Attempt D → Attempt D
within None around site a = a
within {D} (Some p) around site a =
    let kept : Outcome D = stays TooLarge around.outer site in
    record {
      replaces = false;
      given = only (record kept { finds = p.finds; bursts = p.bursts });
    }

module _ {D : Type 0} (dialect : Dialect) (world : World D) (local : Definition → D)
    (scope : List ℕ → Option D) where
  -- a list, searched in that world
  abbrev pub noted_list : Option (Expander (Noted D)) → ℕ → Search (Noted D)
  noted_list =
      search_list dialect (noted_world world) (λ d. definition (local d))
      (λ key. option_map definition (scope key))

  -- an attempt at a call, in that world
  abbrev pub plain_attempt : Search (Noted D) → Expander (Noted D)
  plain_attempt =
      attempt dialect (noted_world world) (λ d. definition (local d))
      (λ key. option_map definition (scope key))

  -- the same, with its note before what is in its result
  abbrev pub noted_attempt : Search (Noted D) → Expander (Noted D)
  noted_attempt search d around site =
      let a : Attempt (Noted D) = plain_attempt search d around site in
      let note : Notes D =
      note_of (noted_bursts world d site.argument) (noted_fit world d site.argument)
      (noted_put_out world d site.argument) in
      record a { given = noting note a.given }

  -- the expansion of a list with n levels left, with its notes among its look-ups
  abbrev pub noted : ℕ → Search (Noted D)
  noted zero around f = noted_list None (suc (size f)) around f
  noted (suc n) around f =
      noted_list (Some (noted_attempt (noted n))) (suc (size f)) around f

  -- an outermost call of this definition, whose result is searched with n levels left, makes too
  -- much: then what comes before
  abbrev pub too_large : Limits → ℕ → D → Around → CallSite → Option (Passed D)
  too_large limits n d around site =
      until_passed limits.calls limits.tokens
      (noted_attempt (noted n) (definition d) around site).given.outcome.finds

  -- outermost calls within limits
  abbrev pub limited : Limits → ℕ → Expander D
  limited limits n d around site =
      within (too_large limits n d around site) around site
      (attempt dialect world local scope (scoped dialect world local scope n) d around site)

  -- the expansion of a list in no result, with n levels left, by limits
  abbrev pub bounded : Limits → ℕ → Search D
  bounded limits zero around f =
      search_list dialect world local scope None (suc (size f)) around f
  bounded limits (suc n) around f =
      search_list dialect world local scope (Some (limited limits n)) (suc (size f)) around f

  -- the same by limits or without
  abbrev pub outermost : Option Limits → ℕ → Search D
  outermost None = scoped dialect world local scope
  outermost (Some limits) = bounded limits

-- the expansion of a tree with n levels left by the rules of this world, in the scope of what is
-- around the tree; `local` makes a definition of a list one of the world
abbrev pub expanded : {D : Type 0} → World D → (Definition → D) → (List ℕ → Option D) → ℕ → Forest
    → Outcome D
expanded world local scope depth tree =
    let around : Around = without_locals Top None in
    (outermost world.dialect world local scope world.dialect.limits depth around tree).outcome
