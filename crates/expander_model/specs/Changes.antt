-- A span map applied to results, and a function to the definitions in them.
use Rattle.std.specs.Prelude.{◌≡◌, ℕ, List, map, Option, option_map}
use Rattle.tt_data.specs.Forest.{Forest, map_spans}
use Rattle.tt_data.specs.Walk.{step_with}
use Rattle.tt_data.specs.declared.span.Span.{Span}
use Rattle.expander_model.specs.declared.fault.FaultKind.{FaultKind}
use Rattle.expander_model.specs.Expansion.{PlacedStep, World, Outcome}

-- an event with f applied to its spans
abbrev pub placed_with : (Span → Span) → PlacedStep → PlacedStep
placed_with f s = record { step = step_with f s.step; outer = option_map f s.outer }

-- a fault with f applied to its span
abbrev pub fault_with : (Span → Span) → (FaultKind × Span) → FaultKind × Span
fault_with f x = (x.0, f x.1)

-- a look-up with h applied to its definition
abbrev pub find_with : {D E : Type 0} → (D → E) → (List ℕ × Option D) → List ℕ × Option E
find_with h x = (x.0, option_map h x.1)

-- an expansion result with f applied to its spans, and h to its definitions
abbrev pub outcome_with : {D E : Type 0} → (Span → Span) → (D → E) → Outcome D → Outcome E
outcome_with f h o = record {
  steps = map (placed_with f) o.steps;
  faults = map (fault_with f) o.faults;
  finds = map (find_with h) o.finds;
  bursts = o.bursts;
}

-- the second world is the first with f applied to each span and h to each definition
pub record Changes {D E : Type 0} (f : Span → Span) (h : D → E) (one : World D)
    (two : World E) : Type 0 where
  pub broken : (d : D) → two.broken (h d) ≡ one.broken d
  pub fit : (d : D) (a : Forest) → two.fit (h d) (map_spans f a)
      ≡ option_map (map_spans f) (one.fit d a)
  pub put_out : (d : D) (a : Forest) → two.put_out (h d) (map_spans f a) ≡ one.put_out d a
  pub bursts : (d : D) (a : Forest) → two.bursts (h d) (map_spans f a) ≡ one.bursts d a

-- h is applied to what each name resolves to
abbrev pub ScopeChange : {D E : Type 0} → (D → E) → (List ℕ → Option D) → (List ℕ → Option E)
    → Type 0
ScopeChange h scope changed = (name : List ℕ) → changed name ≡ option_map h (scope name)
