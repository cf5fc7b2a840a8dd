-- Events and faults of a piece, emitted with their spans in the text.
use Rattle.std.proofs.Common.{◌≡◌, ℕ, ◌+◌, ◌<◌, ◌≤◌, subst, zero, suc, List, [], ◌∷◌, ◌++◌, drop, get_or, length, refl, sym, ap, ◌∙◌, append_assoc, append-nil, arith, nat_eq, false, if◌then◌else◌}
use Rattle.std.proofs.Math.Path.{fun_ext}
use Rattle.std.proofs.lemmas.Bool.Decides.{nat_tests}
use Rattle.std.proofs.lemmas.List.{at_drop_all, drop_more, map-append}
use Rattle.std.proofs.lemmas.Simd.{map-map}
use Rattle.std.specs.Prelude.{Bool, is_some, map}
use Rattle.mbe.specs.Grammar.{Grammar}
use Rattle.mbe.specs.Macros.{rules_of}
use Rattle.mbe_rules.specs.Items.{Rules}
use Rattle.bridge.specs.RelativeSpans.{moved_to, own_place}
use Rattle.bridge.specs.declared.printing.relative_spans.Place.{Place}
use Rattle.tt_data.specs.Forest.{Forest, map_spans}
use Rattle.expander_model.specs.Scoping.{is_out}
use Rattle.expander_model.specs.declared.scope_rules.Standing.TheVariants.{Top}
use Rattle.expander_scope.proofs.ChangeLemmas.{is_out-with}
use Rattle.tt_data.specs.declared.edition.Edition.{Edition}
use Rattle.expander_model.specs.declared.dialect.Dialect.{Dialect}
use Rattle.tt_data.specs.declared.span.TextRange.{TextRange}
use Rattle.tt_data.specs.declared.span.Span.{Span}
use Rattle.expander_model.specs.Changes.{fault_with, placed_with}
use Rattle.expander_model.specs.Definitions.{Definition}
use Rattle.expander_scope.specs.Editions.{IsRead}
use Rattle.expander_model.specs.Expansion.{Outcome, PlacedStep}
use Rattle.expander_model.specs.Faults.{fault_at}
use Rattle.expander_model.specs.Held.{Met, Numbered, anchored, base_of, kept, met, place_of, present, resolve}
use Rattle.expander_session.specs.Layered.{layers}
use Rattle.expander_model.specs.Meaning.{Layers, member_faults, output_of}
use Rattle.expander_model.specs.OtherPlaces.{LooksAtNoPlace, definition_with}
use Rattle.expander_session.specs.Emitting.{PutsOut}
use Rattle.expander_scope.specs.Outcomes.{numbered_of_known, placed_of}
use Rattle.expander_session.specs.AbsoluteSpans.{base_at, range_from, resolved_by, resolved_faults, resolved_steps, told_if_broken, told_of}
use Rattle.expander_scope.specs.OffsetTables.{place_at}
use Rattle.expander_model.specs.declared.fault.Fault.{Fault}
use Rattle.expander_model.specs.World.{rules_in, world}
use Rattle.expander_model.specs.declared.fault.FaultKind.{FaultKind}
use Rattle.expander_model.specs.declared.fault.FaultKind.TheVariants.{BrokenDefinition}
use Rattle.expander_scope.specs.declared.macro_def.MacroDef.{MacroDef}
use Rattle.expander_scope.specs.declared.outcome.Event.{Event}
use Rattle.expander_session.specs.declared.emitter.Emitter.{Emitter}
use Rattle.expander_scope.specs.declared.offsets.Offsets.{Offsets}
use Rattle.expander_session.proofs.PrintingLemmas.{StillPuts}

-- by the table of starts places are what they are by the definitions met
pub resolved_is : (start : ℕ) (starts : Offsets) (before : List Met) → ((n : ℕ) → place_at starts n ≡ place_of before n) → resolved_by start starts ≡ resolve start before
resolved_is start starts before h = fun_ext (λ s. ap (λ (p : Place). moved_to p s) (base s.anchor))
  where
    base : (a : ℕ) → base_at start starts a ≡ base_of start before a
    base zero = refl
    base (suc n) = let no : nat_eq (suc n) 0 ≡ false = grind (arith, nat_tests) in ap (λ (b : Bool). if b then own_place start else place_at starts (suc n)) no ∙ h (suc n)

-- steps one by one
pub own_left : (start : ℕ) (starts : Offsets) (own : List Event) (i : ℕ) (s : Event) → i < length own → s ≡ get_or own i s
    → resolved_steps start starts (map placed_of (drop i own)) ≡ resolved_steps start starts (placed_of s ∷ []) ++ resolved_steps start starts (map placed_of (drop (i + 1) own))
own_left start starts own i s inside is =
    ap (λ l. resolved_steps start starts (map placed_of l)) (drop_more own i s inside)
    ∙ ap (λ (x : Event). resolved_steps start starts (placed_of x ∷ map placed_of (drop (i + 1) own))) (sym is)

-- steps of a walk one after another
pub resolved_more : (start : ℕ) (starts : Offsets) (left added later : List PlacedStep) → left ≡ added ++ later
    → resolved_steps start starts left ≡ resolved_steps start starts added ++ resolved_steps start starts later
resolved_more start starts left added later is =
    ap (resolved_steps start starts) is ∙ map-append (placed_with (resolved_by start starts)) added later

-- faults one by one
pub told_more : (start : ℕ) (starts : Offsets) (own : List (FaultKind × Span)) (i : ℕ) (d : FaultKind × Span) (old before after : List Fault) → i < length own
    → after ≡ before ++ resolved_faults start starts (get_or own i d ∷ []) → before ++ resolved_faults start starts (drop i own) ≡ old ++ resolved_faults start starts own
    → after ++ resolved_faults start starts (drop (i + 1) own) ≡ old ++ resolved_faults start starts own
told_more start starts own i d old before after inside is h =
    let first : List Fault = resolved_faults start starts (get_or own i d ∷ []) in
    let later : List Fault = resolved_faults start starts (drop (i + 1) own) in
    ap (λ l. l ++ later) is ∙ append_assoc before first later
    ∙ ap (λ l. before ++ resolved_faults start starts l) (sym (drop_more own i d inside)) ∙ h

pub told_done : (start : ℕ) (starts : Offsets) (own : List (FaultKind × Span)) (i : ℕ) (now whole : List Fault) → length own ≤ i
    → now ++ resolved_faults start starts (drop i own) ≡ whole → now ≡ whole
told_done start starts own i now whole past h =
    sym (append-nil now) ∙ sym (ap (λ l. now ++ l) (at_drop_all (resolved_faults start starts) own i past)) ∙ h

-- nothing is left of the steps
pub own_done : (start : ℕ) (starts : Offsets) (own : List Event) (i : ℕ) (old now : Emitter) (whole : List PlacedStep) → length own ≤ i
    → StillPuts old now whole (resolved_steps start starts (map placed_of (drop i own))) → PutsOut old now whole
own_done start starts own i old now whole past still =
    subst (PutsOut old now)
    (sym (append-nil still.done) ∙ sym (ap (λ l. still.done ++ l) (at_drop_all (λ l. resolved_steps start starts (map placed_of l)) own i past)) ∙ still.is) still.puts

-- ---- pieces of the text

-- a plain piece in places of its own puts out what the piece of the text gives
module _ (layers : Layers) (start : ℕ) (starts : Offsets) (before : List Met) (h : (n : ℕ) → place_at starts n ≡ place_of before n) (tree : Forest) (o : Outcome Numbered) where
  pub kept_steps : resolved_steps start starts o.steps ≡ output_of (present (kept start before tree o))
  kept_steps = ap (λ (f : Span → Span). map (placed_with f) o.steps) (resolved_is start starts before h)

  pub kept_faults : resolved_faults start starts o.faults ≡ member_faults layers (present (kept start before tree o))
  kept_faults =
      ap (λ (f : Span → Span). map (λ x. fault_at x.0 (f x.1)) o.faults) (resolved_is start starts before h)
      ∙ sym (map-map (λ x. fault_at x.0 x.1) (fault_with (resolve start before)) o.faults)

-- a definition in places of its own tells what that of the text does
pub met_faults : (grammar : Grammar) (edition : Edition) (dialect : Dialect) → LooksAtNoPlace (world grammar edition dialect) → (place : Place) (k : MacroDef) → IsRead edition k
    → told_of dialect place.start k ≡ member_faults (layers grammar edition dialect) (present (met (record { place = place; numbered = numbered_of_known k })))
met_faults grammar edition dialect law place k read =
    let d : Definition = (numbered_of_known k).definition in
    let broken : is_some (rules_of k.rules).err ≡ is_some (rules_in edition (definition_with (moved_to place) d)).err =
    ap (λ (r : Rules). is_some r.err) read ∙ law.broken (anchored k.number) d ∙ sym (law.broken (moved_to place) d) in
    let valid : told_if_broken place.start k ≡ told_at (is_some (rules_in edition (definition_with (moved_to place) d)).err) =
    ap (λ (b : Bool). if b then record { kind = BrokenDefinition; range = range_from place.start k.place } ∷ [] else []) broken
    ∙ ap (λ (r : TextRange). if is_some (rules_in edition (definition_with (moved_to place) d)).err then record { kind = BrokenDefinition; range = range_from place.start r } ∷ [] else []) k.placed in
    ap (λ (b : Bool). if b then [] else told_if_broken place.start k) (sym (is_out-with (moved_to place) dialect.cfg Top d.piece))
    ∙ ap (λ (l : List Fault). if is_out dialect.cfg Top (map_spans (moved_to place) d.piece) then [] else l) valid
  where
    told_at : Bool → List Fault
    told_at b =
        if b then record { kind = BrokenDefinition; range = range_from place.start (numbered_of_known k).definition.name.span.range } ∷ [] else []
