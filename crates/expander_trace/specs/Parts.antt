-- The first part of a list of steps that limits leave. (Of this project.)
use Rattle.std.specs.Prelude.{ℕ, ◌-◌, Bool, false, List, [], ◌∷◌, nat_eq, nat_lt, Option, Some}
use Rattle.std.specs.Prelude.{None, Result, Ok, Err, if◌then◌else◌}
use Rattle.std.specs.List.{list_any}
use Rattle.tt_data.specs.Forest.{Forest}
use Rattle.tt_data.specs.Walk.{walk}
use Rattle.expander_model.specs.Faults.{is_definition_word}
use Rattle.expander_model.specs.declared.fault.FaultKind.{FaultKind}
use Rattle.expander_model.specs.declared.scope_rules.ScopeRules.{ScopeRules}
use Rattle.expander_model.specs.declared.scope_rules.ScopeRules.TheVariants.{TopLevel, Rust}
use Rattle.expander_trace.specs.Steps.{Attempt, Step}
use Rattle.expander_trace.specs.declared.limits.Cut.{Cut}
use Rattle.expander_trace.specs.declared.limits.Cut.TheVariants.{Steps, Tokens, Definitions}
use Rattle.expander_trace.specs.declared.limits.Limits.{Limits}
use Rattle.expander_trace.specs.declared.limits.Room.{Room}

-- by Rust's rules trees may have definitions of their own where a keyword of one is: `macro_rules`
-- or `macro`
abbrev pub may_define : ScopeRules → Forest → Bool
may_define TopLevel f = false
may_define Rust f = list_any is_definition_word (walk f)

-- the trees that a call gives may have definitions of their own
abbrev pub given_defines : ScopeRules → Result (ℕ × Forest) FaultKind → Bool
given_defines rules (Err kind) = false
given_defines rules (Ok given) = may_define rules given.1

abbrev pub attempt_defines : {D : Type 0} → ScopeRules → Option (Attempt D) → Bool
attempt_defines rules None = false
attempt_defines rules (Some a) = given_defines rules a.given

-- how many tokens rules put out for a step
abbrev pub cost_of : {D : Type 0} → Option (Attempt D) → ℕ
cost_of None = 0
cost_of (Some a) = a.tokens

-- steps, and what is left behind them
pub record Part (D : Type 0) : Type 0 where
  pub steps : List (Step D)
  pub room : Room

-- no steps: nothing more is traced
abbrev pub cut_off : {D : Type 0} → Limits → Cut → Part D
cut_off left why = record { steps = []; room = record { left = left; cut = Some why } }

abbrev pub with_step : {D : Type 0} → Step D → Part D → Part D
with_step s p = record p { steps = s ∷ p.steps }

module _ {D : Type 0} (rules : ScopeRules) where
  -- what is left behind a step: where it gives trees with definitions, nothing more is traced
  abbrev pub room_behind : Limits → Step D → Room
  room_behind left s = record {
    left = record { steps = left.steps - 1; tokens = left.tokens - cost_of s.attempt };
    cut = if attempt_defines rules s.attempt then Some Definitions else None;
  }

  -- the first of these steps, as many as there is room for: they end where no step is left, where
  -- rules put out more tokens than are left, or behind a step whose trees may have definitions
  abbrev pub part_within : Limits → Option Cut → List (Step D) → Part D
  part_within left (Some why) steps = cut_off left why
  part_within left None [] = record { steps = []; room = record { left = left; cut = None } }
  part_within left None (s ∷ steps) =
      if nat_eq left.steps 0 then cut_off left Steps
      else if nat_lt left.tokens (cost_of s.attempt) then cut_off left Tokens
      else with_step s
      (part_within (room_behind left s).left (room_behind left s).cut steps)

  abbrev pub part_of : Room → List (Step D) → Part D
  part_of room steps = part_within room.left room.cut steps
