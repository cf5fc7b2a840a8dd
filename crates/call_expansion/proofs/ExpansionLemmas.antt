-- In a scope of definitions without ids a piece is expanded as by its text's meaning.
use Rattle.std.proofs.Common.{◌≡◌, ◌∙◌, ℕ, Bool, true, false, cond, List, [], ◌∷◌, refl, ap, map, sym}
use Rattle.std.specs.Prelude.{Option, Some, None, option_map}
use Rattle.mbe.specs.Grammar.{Grammar}
use Rattle.tt_data.specs.Forest.{Forest, map_spans}
use Rattle.tt_data.specs.Walk.{Step, at_leaf, opens, closes, step_with}
use Rattle.tt_data.specs.declared.edition.Edition.{Edition}
use Rattle.tt_data.specs.declared.leaf.Leaf.TheVariants as as_leaf
use Rattle.tt_data.specs.declared.span.Span.{Span}
use Rattle.tt_data.proofs.ForestLemmas.{map_spans-same}
use Rattle.expander_model.specs.Changes.{Changes, fault_with, outcome_with, placed_with}
use Rattle.expander_model.specs.Definitions.{Definition}
use Rattle.expander_model.specs.Expansion.{Outcome, PlacedStep, World}
use Rattle.expander_model.specs.Held.{Numbered, anchored_definition, nearest_met, numbered_of, numbered_scope, numbered_world, unnumbered}
use Rattle.expander_model.specs.Limits.{expanded}
use Rattle.expander_model.specs.Scoping.{Scoped, found_in, is_found, without_locals}
use Rattle.expander_model.specs.World.{world}
use Rattle.expander_model.specs.declared.dialect.Dialect.{Dialect}
use Rattle.expander_model.specs.declared.fault.FaultKind.{FaultKind}
use Rattle.expander_model.specs.declared.scope_rules.Standing.TheVariants.{Top}
use Rattle.expander_model.proofs.DefinitionPlaceLemmas.{definition_with-same}
use Rattle.expander_scope.specs.ScopeTable.{expanded_under, scope_in}
use Rattle.expander_scope.specs.declared.scope.Scope as table
use Rattle.expander_scope.proofs.BoundedLemmas.{outermost-with}
use Rattle.call_expansion.specs.InScope.{HasInScope, met_alone}

-- ---- no span changes

abbrev itself : Span → Span
itself s = s

step-same : (s : Step) → step_with itself s ≡ s
step-same (at_leaf (as_leaf.Ident i)) = refl
step-same (at_leaf (as_leaf.Punct p)) = refl
step-same (at_leaf (as_leaf.Literal l)) = refl
step-same (opens kind span) = refl
step-same (closes kind span) = refl

span-same : (o : Option Span) → option_map itself o ≡ o
span-same None = refl
span-same (Some s) = refl

steps-same : (steps : List PlacedStep) → map (placed_with itself) steps ≡ steps
steps-same [] = refl
steps-same (s ∷ steps) = λ i. record { step = step-same s.step i; outer = span-same s.outer i } ∷ steps-same steps i

faults-same : (faults : List (FaultKind × Span)) → map (fault_with itself) faults ≡ faults
faults-same [] = refl
faults-same (f ∷ faults) = ap (λ fs. f ∷ fs) (faults-same faults)

trees-same : (o : Option Forest) → o ≡ option_map (map_spans itself) o
trees-same None = refl
trees-same (Some f) = ap Some (sym (map_spans-same f))

-- ---- without ids

-- a name finds the same definition
alone_found : (dialect : Dialect) (ds : List Definition) (name : List ℕ) → numbered_scope dialect (map met_alone ds) name ≡ option_map unnumbered (found_in dialect ds name)
alone_found dialect [] name = refl
alone_found dialect (d ∷ ds) name = go (is_found dialect d name) (alone_found dialect ds name)
  where
    go : (b : Bool) → option_map numbered_of (nearest_met dialect (map met_alone ds) name) ≡ option_map unnumbered (found_in dialect ds name)
        → option_map numbered_of (cond b (Some (met_alone d)) (nearest_met dialect (map met_alone ds) name)) ≡ option_map unnumbered (cond b (Some d) (found_in dialect ds name))
    go true e = refl
    go false e = e

unnumbered_back : (o : Option Definition) → o ≡ option_map anchored_definition (option_map unnumbered o)
unnumbered_back None = refl
unnumbered_back (Some d) = ap Some (sym (definition_with-same d))

alone_world : (w : World Definition) → Changes itself anchored_definition (numbered_world w) w
alone_world w = record {
  broken = λ d. refl;
  fit = λ d a. ap (w.fit (anchored_definition d)) (map_spans-same a) ∙ trees-same (w.fit (anchored_definition d) a);
  put_out = λ d a. ap (w.put_out (anchored_definition d)) (map_spans-same a);
  bursts = λ d a. ap (w.bursts (anchored_definition d)) (map_spans-same a);
}

-- a piece in that scope
abbrev pub meant : World Definition → List Definition → ℕ → Forest → Outcome Definition
meant w ds depth piece = expanded w (λ d. d) (found_in w.dialect ds) depth piece

abbrev kept : World Definition → List Definition → ℕ → Forest → Outcome Numbered
kept w ds depth piece = expanded (numbered_world w) unnumbered (numbered_scope w.dialect (map met_alone ds)) depth piece

alone_expanded : (w : World Definition) (ds : List Definition) (depth : ℕ) (piece : Forest)
    → meant w ds depth piece ≡ outcome_with itself anchored_definition (kept w ds depth piece)
alone_expanded w ds depth piece =
    ap (meant w ds depth) (sym (map_spans-same piece))
    ∙ ap (λ (a : Scoped Definition). a.outcome)
    (outermost-with itself anchored_definition w.dialect (numbered_world w) w (alone_world w) unnumbered (λ d. d) (λ d. refl)
    (numbered_scope w.dialect (map met_alone ds)) (found_in w.dialect ds)
    (λ name. unnumbered_back (found_in w.dialect ds name) ∙ ap (option_map anchored_definition) (sym (alone_found w.dialect ds name)))
    w.dialect.limits depth (without_locals Top None) piece)

-- the same events and faults, and the same rules that put out too much
pub record Agrees (o : Outcome Numbered) (m : Outcome Definition) : Type 0 where
  pub steps : o.steps ≡ m.steps
  pub faults : o.faults ≡ m.faults
  pub bursts : o.bursts ≡ m.bursts

pub scope_agrees : (grammar : Grammar) (s : table.Scope) (edition : Edition) (dialect : Dialect) (ds : List Definition) (depth : ℕ) (piece : Forest) → s.edition ≡ edition → HasInScope dialect s ds
    → Agrees (expanded_under grammar s dialect depth piece) (expanded (world grammar edition dialect) (λ d. d) (found_in dialect ds) depth piece)
scope_agrees grammar s edition dialect ds depth piece e has =
    let w : World Definition = world grammar edition dialect in
    let is : expanded_under grammar s dialect depth piece ≡ kept w ds depth piece =
    ap (λ (x : Edition). expanded (numbered_world (world grammar x dialect)) unnumbered (scope_in s) depth piece) e
    ∙ ap (λ scope. expanded (numbered_world w) unnumbered scope depth piece) has.finds in
    let same : meant w ds depth piece ≡ outcome_with itself anchored_definition (kept w ds depth piece) = alone_expanded w ds depth piece in
    record {
      steps = ap (λ (o : Outcome Numbered). o.steps) is ∙ sym (ap (λ (o : Outcome Definition). o.steps) same ∙ steps-same (kept w ds depth piece).steps);
      faults = ap (λ (o : Outcome Numbered). o.faults) is ∙ sym (ap (λ (o : Outcome Definition). o.faults) same ∙ faults-same (kept w ds depth piece).faults);
      bursts = ap (λ (o : Outcome Numbered). o.bursts) is ∙ sym (ap (λ (o : Outcome Definition). o.bursts) same);
    }
