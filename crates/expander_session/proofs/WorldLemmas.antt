-- What definitions mean does not depend on spans.
use Rattle.std.proofs.Common.{◌≡◌, ℕ, Bool, true, false, List, Option, Some, None, refl, sym, ap, ◌∙◌, option_map}
use Rattle.std.specs.Prelude.{if◌then◌else◌, is_some, map}
use Rattle.tt_data.specs.Forest.{Forest, map_spans}
use Rattle.tt_data.specs.declared.edition.Edition.{Edition}
use Rattle.tt_data.specs.declared.span.Span.{Span}
use Rattle.tt_data.specs.declared.span.SyntaxContext.{SyntaxContext}
use Rattle.mbe_rules.specs.Items.{Rule, Rules}
use Rattle.mbe_rules.specs.Parsing.{macro_of, macro_rules_of}
use Rattle.mbe_rules.specs.Relabelling.{rule_with, rules_with}
use Rattle.mbe_rules.specs.declared.macro_call_style.MacroCallStyle.{MacroCallStyle}
use Rattle.mbe_rules.specs.declared.macro_call_style.MacroCallStyle.TheVariants.{FnLike}
use Rattle.mbe.specs.Bursts as made_by
use Rattle.mbe.specs.PutOut as counted
use Rattle.mbe.specs.Fit.{fit, fit_with}
use Rattle.mbe.specs.Grammar.{Grammar}
use Rattle.mbe.specs.Markers.{is_name}
use Rattle.expander_scope.proofs.ChangeLemmas.{scoped-with}
use Rattle.expander_scope.proofs.RuleLemmas.{top_level}
use Rattle.expander_scope.specs.textual_scope.ScopeChanges.{scoped_with}
use Rattle.expander_model.specs.Changes.{outcome_with}
use Rattle.expander_model.specs.Dialects as dialects
use Rattle.expander_model.specs.Scoping.{Scoped, without_locals}
use Rattle.expander_model.specs.declared.scope_rules.Standing.TheVariants.{Top}
use Rattle.expander_model.specs.Definitions.{Definition}
use Rattle.expander_model.specs.Expansion.{World, expansion}
use Rattle.expander_model.specs.OtherPlaces.{CommutesWithMarker, LooksAtNoPlace, definition_with}
use Rattle.expander_model.specs.EditionMarks.{edition_in}
use Rattle.expander_model.specs.World.{fit_of, made, rules_by, rules_in, world}
use Rattle.expander_model.specs.declared.dialect.Dialect.{Dialect}
use Rattle.expander_model.proofs.EditionLemmas.{edition_moved}

-- what the layer below says of rules, of fits and of what they put out
pub record RuleLaws : Type 0 where
  pub rules : (f : Span → Span) (edition : SyntaxContext → Edition) → ((s : Span) → edition (f s).ctx ≡ edition s.ctx)
      → (body : Forest) → macro_rules_of edition (map_spans f body) ≡ rules_with f (macro_rules_of edition body)
  pub macros : (f : Span → Span) (edition : SyntaxContext → Edition) → ((s : Span) → edition (f s).ctx ≡ edition s.ctx)
      → (arguments : Option Forest) (body : Forest) → macro_of edition (option_map (map_spans f) arguments) (map_spans f body) ≡ rules_with f (macro_of edition arguments body)
  pub fits : (f : Span → Span) (is_identifier : List ℕ → Bool) (grammar : Grammar) (mark : Span → Span)
      → ((s : Span) → f (mark s) ≡ mark (f s)) → (list : List Rule) (style : MacroCallStyle) (argument : Forest)
      → fit is_identifier grammar mark (map (rule_with f) list) style (map_spans f argument) ≡ fit_with f (fit is_identifier grammar mark list style argument)
  pub put_out : (f : Span → Span) (is_identifier : List ℕ → Bool) (grammar : Grammar) (mark : Span → Span)
      → ((s : Span) → f (mark s) ≡ mark (f s)) → (list : List Rule) (style : MacroCallStyle) (argument : Forest)
      → counted.put_out is_identifier grammar mark (map (rule_with f) list) style (map_spans f argument) ≡ counted.put_out is_identifier grammar mark list style argument
  pub bursts : (f : Span → Span) (is_identifier : List ℕ → Bool) (grammar : Grammar) (mark : Span → Span)
      → ((s : Span) → f (mark s) ≡ mark (f s)) → (list : List Rule) (style : MacroCallStyle) (argument : Forest)
      → made_by.bursts is_identifier grammar mark (map (rule_with f) list) style (map_spans f argument) ≡ made_by.bursts is_identifier grammar mark list style argument

module _ (laws : RuleLaws) (grammar : Grammar) (edition : Edition) (f : Span → Span) where
  rules_by_there : (own : Edition) (d : Definition) → rules_by own (definition_with f d) ≡ rules_with f (rules_by own d)
  rules_by_there own d = go d.is_macro
    where
      go : (b : Bool) → (if b then macro_of (λ context. own) (option_map (map_spans f) d.arguments) (map_spans f d.body) else macro_rules_of (λ context. own) (map_spans f d.body))
          ≡ rules_with f (if b then macro_of (λ context. own) d.arguments d.body else macro_rules_of (λ context. own) d.body)
      go true = laws.macros f (λ context. own) (λ s. refl) d.arguments d.body
      go false = laws.rules f (λ context. own) (λ s. refl) d.body

  rules_there : (d : Definition) → rules_in edition (definition_with f d) ≡ rules_with f (rules_in edition d)
  rules_there d =
      ap (λ (own : Edition). rules_by own (definition_with f d)) (edition_moved f edition d.piece)
      ∙ rules_by_there (edition_in edition d.piece) d

  forest_there : (o : Option (ℕ × Forest)) → option_map (λ r. r.1) (fit_with f o) ≡ option_map (map_spans f) (option_map (λ r. r.1) o)
  forest_there None = refl
  forest_there (Some r) = refl

  fit_there : CommutesWithMarker f → (rules : Rules) (argument : Forest)
      → fit_of grammar (rules_with f rules) (map_spans f argument) ≡ option_map (map_spans f) (fit_of grammar rules argument)
  fit_there commutes rules argument =
      ap (option_map (λ r. r.1)) (laws.fits f is_name grammar made commutes rules.list FnLike argument)
      ∙ forest_there (fit is_name grammar made rules.list FnLike argument)

pub world_at_other_places : RuleLaws → (grammar : Grammar) (edition : Edition) (dialect : Dialect) → LooksAtNoPlace (world grammar edition dialect)
world_at_other_places laws grammar edition dialect = record {
  broken = λ f d. ap (λ (r : Rules). is_some r.err) (rules_there laws grammar edition f d);
  fit = λ f commutes d argument.
      ap (λ (r : Rules). fit_of grammar r (map_spans f argument)) (rules_there laws grammar edition f d)
      ∙ fit_there laws grammar edition f commutes (rules_in edition d) argument;
  put_out = λ f commutes d argument.
      ap (λ (r : Rules). counted.put_out is_name grammar made r.list FnLike (map_spans f argument)) (rules_there laws grammar edition f d)
      ∙ laws.put_out f is_name grammar made commutes (rules_in edition d).list FnLike argument;
  bursts = λ f commutes d argument.
      ap (λ (r : Rules). made_by.bursts is_name grammar made r.list FnLike (map_spans f argument)) (rules_there laws grammar edition f d)
      ∙ laws.bursts f is_name grammar made commutes (rules_in edition d).list FnLike argument;
}

-- an expansion of trees at other places
pub expansion_there : RuleLaws → (grammar : Grammar) (edition : Edition) (dialect : Dialect) (f : Span → Span) → CommutesWithMarker f
    → (scope : List ℕ → Option Definition) (depth : ℕ) (outer : Option Span) (g : Forest)
    → expansion (world grammar edition dialect) (λ name. option_map (definition_with f) (scope name)) depth (option_map f outer) (map_spans f g)
    ≡ outcome_with f (definition_with f) (expansion (world grammar edition dialect) scope depth outer g)
expansion_there laws grammar edition dialect f commutes scope depth outer g =
    let w : World Definition = world grammar edition dialect in
    let no_place : LooksAtNoPlace w = world_at_other_places laws grammar edition dialect in
    let moved : List ℕ → Option Definition = λ name. option_map (definition_with f) (scope name) in
    ap (λ (a : Scoped Definition). a.outcome)
    (sym (top_level w (λ d. d) moved depth Top (option_map f outer) (map_spans f g))
    ∙ scoped-with f (definition_with f) dialects.top_level w w
    (record { broken = no_place.broken f; fit = no_place.fit f commutes; put_out = no_place.put_out f commutes; bursts = no_place.bursts f commutes })
    (λ d. d) (λ d. d) (λ d. refl) scope moved (λ name. refl) depth (without_locals Top outer) g
    ∙ ap (scoped_with f (definition_with f)) (top_level w (λ d. d) scope depth Top outer g))
