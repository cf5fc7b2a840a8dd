-- The values of the code as steps, with the ids of definitions.
use Rattle.std.specs.Prelude.{option_map}
use Rattle.std.specs.Rc.{rc_value}
use Rattle.expander_model.specs.Held.{Numbered}
use Rattle.expander_scope.specs.Outcomes.{numbered_of_known}
use Rattle.expander_trace.specs.Given.{given_in}
use Rattle.expander_trace.specs.Steps as spec
use Rattle.expander_trace.specs.declared.step.Attempt.{Attempt}
use Rattle.expander_trace.specs.declared.step.Step.{Step}

-- a call of a definition
abbrev pub attempt_numbered : Attempt → spec.Attempt Numbered
attempt_numbered a = record {
  definition = numbered_of_known (rc_value a.known);
  call = a.call.inner;
  tokens = a.tokens;
  given = given_in a.given;
}

abbrev pub step_numbered : Step → spec.Step Numbered
step_numbered s = record {
  level = s.level;
  name = s.name;
  key = s.key;
  attempt = option_map attempt_numbered s.attempt;
}
