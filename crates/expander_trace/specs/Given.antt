-- The values of the code as steps, with the trees of definitions.
use Rattle.std.specs.Prelude.{ℕ, map, option_map, Result, Ok, Err}
use Rattle.std.specs.Rc.{rc_value}
use Rattle.tt_data.specs.Forest.{Forest}
use Rattle.expander_model.specs.declared.fault.FaultKind.{FaultKind}
use Rattle.expander_trace.specs.Parts.{Part}
use Rattle.expander_trace.specs.Steps as spec
use Rattle.expander_trace.specs.declared.step.Attempt.{Attempt}
use Rattle.expander_trace.specs.declared.step.Given.{Given}
use Rattle.expander_trace.specs.declared.step.Step.{Step}
use Rattle.expander_trace.specs.declared.step.Trace.{Trace}

-- what a call gives, or the fault for which it stays
abbrev pub given_in : Result Given FaultKind → Result (ℕ × Forest) FaultKind
given_in (Ok given) = Ok (given.rule, (rc_value given.tree).inner)
given_in (Err kind) = Err kind

-- a call of a definition
abbrev pub attempt_in : Attempt → spec.Attempt Forest
attempt_in a = record {
  definition = (rc_value a.known).tree.inner;
  call = a.call.inner;
  tokens = a.tokens;
  given = given_in a.given;
}

abbrev pub step_in : Step → spec.Step Forest
step_in s = record {
  level = s.level;
  name = s.name;
  key = s.key;
  attempt = option_map attempt_in s.attempt;
}

abbrev pub trace_in : Trace → Part Forest
trace_in t = record { steps = map step_in t.steps.items; room = t.room }

-- steps with another value for each definition
abbrev pub attempt_with : {D E : Type 0} → (D → E) → spec.Attempt D → spec.Attempt E
attempt_with h a = record {
  definition = h a.definition;
  call = a.call;
  tokens = a.tokens;
  given = a.given;
}

abbrev pub step_with : {D E : Type 0} → (D → E) → spec.Step D → spec.Step E
step_with h s = record {
  level = s.level;
  name = s.name;
  key = s.key;
  attempt = option_map (attempt_with h) s.attempt;
}

abbrev pub part_with : {D E : Type 0} → (D → E) → Part D → Part E
part_with h p = record { steps = map (step_with h) p.steps; room = p.room }
