-- Piece-relative spans as spans of their texts, by the table of where definitions start.
use Rattle.std.specs.Prelude.{ℕ, ◌+◌, List, [], ◌∷◌, is_some, map, nat_eq, if◌then◌else◌}
use Rattle.bridge.specs.RelativeSpans.{moved_to, own_place}
use Rattle.bridge.specs.declared.printing.relative_spans.Place.{Place}
use Rattle.mbe.specs.Macros.{rules_of}
use Rattle.tt_data.specs.declared.span.Span.{Span}
use Rattle.tt_data.specs.declared.span.TextRange.{TextRange}
use Rattle.expander_model.specs.Changes.{placed_with}
use Rattle.expander_model.specs.Expansion.{PlacedStep}
use Rattle.expander_model.specs.Faults.{fault_at}
use Rattle.expander_scope.specs.OffsetTables.{place_at}
use Rattle.expander_model.specs.declared.fault.Fault.{Fault}
use Rattle.expander_model.specs.declared.fault.FaultKind.{FaultKind}
use Rattle.expander_model.specs.declared.fault.FaultKind.TheVariants.{BrokenDefinition}
use Rattle.expander_model.specs.Scoping.{is_out}
use Rattle.expander_model.specs.declared.dialect.Dialect.{Dialect}
use Rattle.expander_model.specs.declared.scope_rules.Standing.TheVariants.{Top}
use Rattle.expander_scope.specs.Outcomes.{numbered_of_known}
use Rattle.expander_scope.specs.declared.macro_def.MacroDef.{MacroDef}
use Rattle.expander_scope.specs.declared.offsets.Offsets.{Offsets}

-- the place that spans with this anchor count from
abbrev pub base_at : ℕ → Offsets → ℕ → Place
base_at start starts anchor = if nat_eq anchor 0 then own_place start else place_at starts anchor

-- a range counted from this offset, as a range of its text
abbrev pub range_from : ℕ → TextRange → TextRange
range_from base r = record { start = base + r.start; «end» = base + r.«end» }

-- a span of a piece that starts here, as a span of its text
abbrev pub resolved_by : ℕ → Offsets → Span → Span
resolved_by start starts s = moved_to (base_at start starts s.anchor) s

-- events of a piece, with their spans in their texts
abbrev pub resolved_steps : ℕ → Offsets → List PlacedStep → List PlacedStep
resolved_steps start starts steps = map (placed_with (resolved_by start starts)) steps

-- faults of a piece, as faults of the text
abbrev pub resolved_faults : ℕ → Offsets → List (FaultKind × Span) → List Fault
resolved_faults start starts faults = map (λ f. fault_at f.0 (resolved_by start starts f.1)) faults

-- the fault of a definition that starts here, at its name: none if the definition is valid
abbrev pub told_if_broken : ℕ → MacroDef → List Fault
told_if_broken start k = if is_some (rules_of k.rules).err
    then record { kind = BrokenDefinition; range = range_from start k.place } ∷ [] else []

-- the same of a definition that may be left out: then none
abbrev pub told_of : Dialect → ℕ → MacroDef → List Fault
told_of dialect start k =
    if is_out dialect.cfg Top (numbered_of_known k).definition.piece then []
    else told_if_broken start k
