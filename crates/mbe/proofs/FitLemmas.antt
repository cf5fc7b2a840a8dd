-- Which rule fits does not depend on spans, and its result has its spans mapped alike.
use Rattle.std.proofs.Common.{◌≡◌, refl, ℕ, suc, List, [], ◌∷◌, map, Bool, Option, Some, None, option_map, option_and_then}
use Rattle.tt_data.specs.Forest.{Forest, map_spans}
use Rattle.tt_data.specs.declared.edition.Edition.{Edition}
use Rattle.tt_data.specs.declared.span.Span.{Span}
use Rattle.tt_data.specs.declared.span.SyntaxContext.{SyntaxContext}
use Rattle.mbe_rules.specs.Items.{Items, Rule}
use Rattle.mbe_rules.specs.Parsing.{macro_rules_of, macro_of}
use Rattle.mbe_rules.specs.Relabelling.{items_with, rule_with}
use Rattle.mbe_rules.specs.declared.macro_call_style.MacroCallStyle.{MacroCallStyle}
use Rattle.mbe_rules.proofs.ParsingLemmas.{macro_rules_of-map, macro_of-map}
use Rattle.mbe_transcriber.specs.mbe_matcher.Bindings.{bindings}
use Rattle.mbe_transcriber.specs.Filling.{filled}
use Rattle.mbe.specs.Fit.{same_style, rule_fit, or_later, styled_fit, fit_from, fit, fit_with}
use Rattle.mbe_transcriber.specs.Limits.{most_rounds}
use Rattle.mbe_transcriber.specs.mbe_matcher.Grammar.{Grammar}
use Rattle.mbe_transcriber.specs.mbe_matcher.Readings.{Move, the_reading}
use Rattle.mbe_transcriber.proofs.BindingLemmas.{bindings-map}
use Rattle.mbe_transcriber.proofs.FillingLemmas.{by_test, filled-map}
use Rattle.mbe_transcriber.proofs.ReadingLemmas.{move_with, the_reading-map}

module _ (f : Span → Span) (is_identifier : List ℕ → Bool) (grammar : Grammar) (mark : Span → Span) (commutes : (s : Span) → f (mark s) ≡ mark (f s)) where
  read-map : (template : Items) (o : Option (List Move)) →
      option_and_then (λ ms. filled is_identifier most_rounds mark (bindings ms) (items_with f template)) (option_map (map (move_with f)) o)
      ≡ option_map (map_spans f) (option_and_then (λ ms. filled is_identifier most_rounds mark (bindings ms) template) o)
  read-map template None = refl
  read-map template (Some ms) = rw (bindings-map f ms) (filled-map f is_identifier most_rounds mark commutes (bindings ms) template)

  rule_fit-map : (r : Rule) (argument : Forest) →
      rule_fit is_identifier grammar mark (rule_with f r) (map_spans f argument) ≡ option_map (map_spans f) (rule_fit is_identifier grammar mark r argument)
  rule_fit-map r argument =
      rw (the_reading-map f grammar r.pattern argument) (read-map r.template (the_reading grammar r.pattern argument))

  or_later-map : (n : ℕ) (o : Option Forest) (later : Option (ℕ × Forest)) →
      or_later n (option_map (map_spans f) o) (fit_with f later) ≡ fit_with f (or_later n o later)
  or_later-map n None later = refl
  or_later-map n (Some x) later = refl

  pub styled_fit-map : (style : MacroCallStyle) (r : Rule) (argument : Forest) →
      styled_fit is_identifier grammar mark style (rule_with f r) (map_spans f argument)
      ≡ option_map (map_spans f) (styled_fit is_identifier grammar mark style r argument)
  styled_fit-map style r argument =
      by_test (option_map (map_spans f)) (same_style style r.style) (same_style style r.style) _ None _ None refl (rule_fit-map r argument) refl

  fit_from-map : (style : MacroCallStyle) (argument : Forest) (n : ℕ) (rs : List Rule) →
      fit_from is_identifier grammar mark style (map_spans f argument) n (map (rule_with f) rs)
      ≡ fit_with f (fit_from is_identifier grammar mark style argument n rs)
  fit_from-map style argument n [] = refl
  fit_from-map style argument n (r ∷ rs) =
      rw (styled_fit-map style r argument, fit_from-map style argument (suc n) rs)
      (or_later-map n (styled_fit is_identifier grammar mark style r argument) (fit_from is_identifier grammar mark style argument (suc n) rs))

  -- of rules
  pub fit-map : (rules : List Rule) (style : MacroCallStyle) (argument : Forest) →
      fit is_identifier grammar mark (map (rule_with f) rules) style (map_spans f argument) ≡ fit_with f (fit is_identifier grammar mark rules style argument)
  fit-map rules style argument = fit_from-map style argument 0 rules

  -- and of definitions, where the places keep their editions
  module _ (edition : SyntaxContext → Edition) (keeps : (s : Span) → edition (f s).ctx ≡ edition s.ctx) where
    pub macro_rules_fit-map : (body : Forest) (style : MacroCallStyle) (argument : Forest) →
        fit is_identifier grammar mark (macro_rules_of edition (map_spans f body)).list style (map_spans f argument)
        ≡ fit_with f (fit is_identifier grammar mark (macro_rules_of edition body).list style argument)
    macro_rules_fit-map body style argument =
        rw (macro_rules_of-map f edition keeps body) (fit-map (macro_rules_of edition body).list style argument)

    pub macro_fit-map : (arguments : Option Forest) (body : Forest) (style : MacroCallStyle) (argument : Forest) →
        fit is_identifier grammar mark (macro_of edition (option_map (map_spans f) arguments) (map_spans f body)).list style (map_spans f argument)
        ≡ fit_with f (fit is_identifier grammar mark (macro_of edition arguments body).list style argument)
    macro_fit-map arguments body style argument =
        rw (macro_of-map f edition keeps arguments body) (fit-map (macro_of edition arguments body).list style argument)
