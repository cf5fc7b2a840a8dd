-- How a macro is stored, and what that means.
use Rattle.std.specs.Prelude.{◌≡◌, ℕ, ◌<◌, ◌^◌, false, List, [], length, Option, Some, None}
use Rattle.std.specs.List.{list_any}
use Rattle.mbe_rules.specs.Items.{Rules, has_empty_round}
use Rattle.mbe_rules.specs.Ops as ops
use Rattle.mbe_rules.specs.Parsing.{no_rules}
use Rattle.mbe_rules.specs.declared.errors.ParseError.{ParseError}
use Rattle.mbe_rules.specs.declared.rules.Rule.{Rule}
use Rattle.mbe.specs.declared.declarative_macro.Definition.{Definition}
use Rattle.mbe.specs.declared.declarative_macro.Definition.TheVariants.{Read, Broken}

-- what is parsed of its definition: its rules, and the first fault
abbrev pub kept_rules : Definition → Rules
kept_rules (Read rules keys) = ops.rules_of rules
kept_rules (Broken err) = no_rules (Some err)

-- the rules, as they are stored
abbrev pub kept_list : Definition → List Rule
kept_list (Read rules keys) = rules.list.items
kept_list (Broken err) = []

-- the fault, as it is stored
abbrev pub kept_fault : Definition → Option ParseError
kept_fault (Read rules keys) = rules.err
kept_fault (Broken err) = Some err

-- the keys of the identifiers that the matchers begin with, as they are stored
abbrev pub kept_keys : Definition → List (Option ℕ)
kept_keys (Read rules keys) = keys.items
kept_keys (Broken err) = []

-- rules that were parsed from a definition: they are no more than it has tokens, and if there is
-- no fault, none of their matchers can iterate without end
abbrev pub IsOfDefinition : Rules → Type 0
IsOfDefinition rules =
    (length rules.list < 2 ^ 32) × (rules.err ≡ None → list_any (λ r. has_empty_round r.pattern) rules.list ≡ false)
