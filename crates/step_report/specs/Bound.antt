-- What is told of the rule that a call goes by: what its metavariables stand for, and where rustc
-- refuses the call. (Of this project.)
use Rattle.std.specs.Prelude.{ℕ, ◌+◌, ◌-◌, ◌^◌, Option, Some, None, Result, Ok, Err}
use Rattle.std.specs.Prelude.{if◌then◌else◌, is_some, min, option_and_then, option_map}
use Rattle.tt_data.specs.Forest.{Forest, empty, group, leaf}
use Rattle.tt_data.specs.declared.edition.Edition.{Edition}
use Rattle.mbe_matcher.specs.Grammar.{Grammar}
use Rattle.mbe_rules.specs.Items.{Rules}
use Rattle.expander_model.specs.Definitions.{definition_of}
use Rattle.expander_model.specs.World.{rules_in}
use Rattle.expander_model.specs.declared.fault.FaultKind.{FaultKind}
use Rattle.expander_trace.specs.Steps.{Attempt}
use Rattle.rule_bindings.specs.BoundRules as spec
use Rattle.rule_bindings.specs.BoundRules.{BoundRule}
use Rattle.step_report.specs.Texts.{Named}

-- the texts that steps name, and by which grammar and edition calls are traced
pub record Context : Type 0 where
  pub texts : Named
  pub grammar : Grammar
  pub edition : Edition

abbrev pub context_by : Named → Grammar → Edition → Context
context_by t gr e = record { texts = t; grammar = gr; edition = e }

-- the number of an iteration, from 1, if that fits into 64 bits
abbrev pub told_number : ℕ → ℕ
told_number n = min (n + 1) (2 ^ 64 - 1)

-- the argument of a call: the trees in its group
abbrev pub argument_in : Forest → Option Forest
argument_in empty = None
argument_in (leaf l rest) = argument_in rest
argument_in (group d inner rest) = Some inner

-- what is told of the rule with this number, unless the definition has a fault
abbrev pub bound_by : Grammar → Rules → ℕ → Forest → Option BoundRule
bound_by grammar rules number argument =
    if is_some rules.err then None else spec.bound_by grammar argument number rules.list

-- what is told of the rule that gives something for a call
abbrev pub bound_in : Grammar → Rules → Forest → Result (ℕ × Forest) FaultKind → Option BoundRule
bound_in grammar rules whole (Err kind) = None
bound_in grammar rules whole (Ok given) =
    option_and_then (bound_by grammar rules given.0) (argument_in whole)

-- the rules of the definition that a piece is
abbrev pub piece_rules : Edition → Forest → Option Rules
piece_rules e piece = option_map (rules_in e) (definition_of piece)

-- what is told of it by the rules of the call's definition
abbrev pub attempt_bound : Context → Attempt Forest → Option BoundRule
attempt_bound c a =
    option_and_then (λ rules. bound_in c.grammar rules a.call a.given)
    (piece_rules c.edition a.definition)
