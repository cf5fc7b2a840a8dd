-- No number in a line is a float, so its text is known.
use Rattle.std.proofs.Common.{◌≡◌, ℕ, Bool, true, false, List, [], ◌∷◌, refl, map}
use Rattle.std.specs.Prelude.{Option, Some, None, Result, Ok, Err, if◌then◌else◌, nat_eq}
use Rattle.serde_json.specs.Data.{Data, string}
use Rattle.serde_json.specs.View.{items_of}
use Rattle.serde_json.specs.Written.{has_float, items_have_float}
use Rattle.tt_data.specs.Forest.{Forest}
use Rattle.tt_data.specs.Walk.{walk}
use Rattle.tt_data.specs.declared.span.Span.{Span}
use Rattle.bridge.specs.Printing.{Print, print_of}
use Rattle.call_json.specs.Places.{count}
use Rattle.expander_model.specs.Definitions.{Definition, definition_of}
use Rattle.expander_model.specs.declared.fault.FaultKind.{FaultKind}
use Rattle.expander_trace.specs.Steps.{Attempt, Step}
use Rattle.mbe_rules.specs.declared.parser.MetaVarKind.{MetaVarKind}
use Rattle.rule_bindings.specs.BoundRules.{BoundRule}
use Rattle.rule_bindings.specs.BoundValues.{BoundValue}
use Rattle.step_report.specs.Places.{other_name}
use Rattle.step_report.specs.Bound.{Context, attempt_bound, told_number}
use Rattle.step_report.specs.BoundValues.{binding, bindings, bindings_if, kind_if, tokens_if}
use Rattle.step_report.specs.NoteValues.{note, notes, notes_if, number_if}
use Rattle.step_report.specs.Notes.{Note, notes_of}
use Rattle.step_report.specs.Texts.{Named}
use Rattle.step_report.specs.Tokens.{printed, span_numbers}
use Rattle.step_report.specs.Values.{at, call, call_trees, count_if, macro_if, macro_of, name_if}
use Rattle.step_report.specs.Values.{outcome, result_if, result_in, rule_if, rule_in}
use Rattle.step_report.specs.Values.{stays_if, stays_in, step}

no_float_in : (ns : List ℕ) → items_have_float (items_of (map count ns)) ≡ false
no_float_in [] = refl
no_float_in (n ∷ ns) = no_float_in ns

either : (b : Bool) (x y : Data) → has_float x ≡ false → has_float y ≡ false
    → has_float (if b then x else y) ≡ false
either true x y none other = none
either false x y none other = other

no_float_name : (name : Option (List ℕ)) → has_float (name_if name) ≡ false
no_float_name None = refl
no_float_name (Some name) = refl

no_float_at : (t : Named) (s : Span) → has_float (at t s) ≡ false
no_float_at t s = either (nat_eq s.anchor 0) _ _ refl (rw (no_float_name (other_name t s.anchor)) refl)

no_float_printed : (p : Print) → has_float (printed p) ≡ false
no_float_printed p = rw (no_float_in (span_numbers p.tokens)) refl

no_float_definition : (t : Named) (d : Option Definition) → has_float (macro_of t d) ≡ false
no_float_definition t None = refl
no_float_definition t (Some d) = rw (no_float_at t d.name.span) refl

no_float_macro : (t : Named) (a : Option (Attempt Forest)) → has_float (macro_if t a) ≡ false
no_float_macro t None = refl
no_float_macro t (Some a) = no_float_definition t (definition_of a.definition)

no_float_call : (a : Option (Attempt Forest)) → has_float (call_trees a) ≡ false
no_float_call None = refl
no_float_call (Some a) = no_float_printed (print_of (walk a.call))

no_float_given : (given : Result (ℕ × Forest) FaultKind) → has_float (result_in given) ≡ false
no_float_given (Ok given) = no_float_printed (print_of (walk given.1))
no_float_given (Err kind) = refl

no_float_result : (a : Option (Attempt Forest)) → has_float (result_if a) ≡ false
no_float_result None = refl
no_float_result (Some a) = no_float_given a.given

no_float_number : (given : Result (ℕ × Forest) FaultKind) → has_float (rule_in given) ≡ false
no_float_number (Ok given) = refl
no_float_number (Err kind) = refl

no_float_rule : (a : Option (Attempt Forest)) → has_float (rule_if a) ≡ false
no_float_rule None = refl
no_float_rule (Some a) = no_float_number a.given

no_float_why : (given : Result (ℕ × Forest) FaultKind) → has_float (stays_in given) ≡ false
no_float_why (Ok given) = refl
no_float_why (Err kind) = refl

no_float_stays : (a : Option (Attempt Forest)) → has_float (stays_if a) ≡ false
no_float_stays None = refl
no_float_stays (Some a) = no_float_why a.given

no_float_count : (n : Option ℕ) → has_float (count_if n) ≡ false
no_float_count None = refl
no_float_count (Some n) = refl

no_float_in_call : (t : Named) (s : Step Forest) → has_float (call t s) ≡ false
no_float_in_call t s = rw (no_float_at t s.name, no_float_call s.attempt) refl

no_float_kind : (f : Option (MetaVarKind × Forest)) → has_float (kind_if f) ≡ false
no_float_kind None = refl
no_float_kind (Some f) = refl

no_float_tokens : (f : Option (MetaVarKind × Forest)) → has_float (tokens_if f) ≡ false
no_float_tokens None = refl
no_float_tokens (Some f) = no_float_printed (print_of (walk f.1))

no_float_binding : (v : BoundValue) → has_float (binding v) ≡ false
no_float_binding v =
    rw (no_float_kind v.fragment, no_float_in (map told_number v.iterations), no_float_tokens v.fragment) refl

no_float_each : (vs : List BoundValue) → items_have_float (items_of (map binding vs)) ≡ false
no_float_each [] = refl
no_float_each (v ∷ vs) = rw (no_float_binding v, no_float_each vs) refl

no_float_bindings : (o : Option BoundRule) → has_float (bindings o) ≡ false
no_float_bindings None = refl
no_float_bindings (Some b) = no_float_each b.values

no_float_strings : (ns : List (List ℕ)) → items_have_float (items_of (map string ns)) ≡ false
no_float_strings [] = refl
no_float_strings (n ∷ ns) = no_float_strings ns

no_float_number_if : (n : Option ℕ) → has_float (number_if n) ≡ false
no_float_number_if None = refl
no_float_number_if (Some n) = refl

no_float_note : (n : Note) → has_float (note n) ≡ false
no_float_note n = rw (no_float_strings n.names, no_float_number_if n.rule) refl

no_float_list : (ns : List Note) → items_have_float (items_of (map note ns)) ≡ false
no_float_list [] = refl
no_float_list (n ∷ ns) = rw (no_float_note n, no_float_list ns) refl

no_float_notes : (o : Option BoundRule) → has_float (notes o) ≡ false
no_float_notes None = refl
no_float_notes (Some b) = no_float_list (notes_of b.notes)

no_float_told : (c : Context) (a : Option (Attempt Forest)) → has_float (notes_if c a) ≡ false
no_float_told c None = refl
no_float_told c (Some a) = no_float_notes (attempt_bound c a)

no_float_bound : (c : Context) (a : Option (Attempt Forest)) → has_float (bindings_if c a) ≡ false
no_float_bound c None = refl
no_float_bound c (Some a) = no_float_bindings (attempt_bound c a)

no_float_in_outcome : (c : Context) (a : Option (Attempt Forest)) → has_float (outcome c a) ≡ false
no_float_in_outcome c a =
    rw (
      no_float_bound c a,
      no_float_macro c.texts a,
      no_float_told c a,
      no_float_result a,
      no_float_rule a,
      no_float_stays a,
    ) refl

pub step_has_no_float : (c : Context) (index : ℕ) (parent : Option ℕ) (s : Step Forest)
    → has_float (step c index parent s) ≡ false
step_has_no_float c index parent s =
    rw (no_float_in_call c.texts s, no_float_in_outcome c s.attempt, no_float_count parent) refl
