-- How many tokens a transcriber puts out does not depend on spans.
use Rattle.std.proofs.Common.{◌≡◌, refl, ap, ◌∙◌, ℕ, zero, suc, ◌+◌, ◌-◌, List, [], ◌∷◌, ◌++◌, map, Bool, true, false, Option, Some, None, option_map}
use Rattle.std.specs.Prelude.{◌||◌, nat_lt}
use Rattle.tt.specs.Building.{most_tokens}
use Rattle.tt_data.proofs.ForestLemmas.{size-map_spans}
use Rattle.tt_data.specs.Forest.{Forest, map_spans, size}
use Rattle.tt_data.specs.declared.edition.Edition.{Edition}
use Rattle.tt_data.specs.declared.span.Span.{Span}
use Rattle.tt_data.specs.declared.span.SyntaxContext.{SyntaxContext}
use Rattle.mbe_rules.specs.Items.{Items, Rule, Separator, done, item, group_of, repetition}
use Rattle.mbe_rules.specs.Parsing.{macro_rules_of, macro_of}
use Rattle.mbe_rules.specs.Relabelling.{items_with, rule_with, separator_with}
use Rattle.mbe_rules.specs.declared.macro_call_style.MacroCallStyle.{MacroCallStyle}
use Rattle.mbe_rules.specs.declared.parser.RepeatKind.{RepeatKind}
use Rattle.mbe_rules.specs.declared.parser.RepeatKind.TheVariants.{ZeroOrMore, OneOrMore, ZeroOrOne}
use Rattle.mbe_rules.proofs.ParsingLemmas.{macro_rules_of-map, macro_of-map}
use Rattle.mbe_transcriber.specs.mbe_matcher.Bindings.{Map, bindings}
use Rattle.mbe.specs.Bursts.{bursts, rule_bursts, template_bursts, unless_fit}
use Rattle.mbe.specs.PutOut.{if_unfit, put_out, rule_output, template_output}
use Rattle.mbe_transcriber.specs.Filling.{filled_in, item_in, round_stands, rounds_of, separator_leaves}
use Rattle.mbe.specs.Fit.{same_style, styled_fit}
use Rattle.mbe_transcriber.specs.Limits.{most_rounds}
use Rattle.mbe_transcriber.specs.mbe_matcher.Grammar.{Grammar}
use Rattle.mbe_transcriber.specs.Output.{and_then, output, output_from, output_in, output_of_rounds, size_of}
use Rattle.mbe_transcriber.specs.mbe_matcher.Readings.{Move, the_reading}
use Rattle.mbe_transcriber.proofs.BindingLemmas.{bindings-map, map_with}
use Rattle.mbe_transcriber.proofs.FillingLemmas.{by_test, filled_in-map, item_in-map, round_stands-map, rounds_of-map}
use Rattle.mbe.proofs.FitLemmas.{styled_fit-map}
use Rattle.mbe_transcriber.proofs.FragmentLemmas.{separator_leaves-map}
use Rattle.mbe_transcriber.proofs.ReadingLemmas.{move_with, the_reading-map}

module _ (f : Span → Span) where
  and_then-map : (o : Option Forest) (first others : ℕ) → and_then (option_map (map_spans f) o) first others ≡ and_then o first others
  and_then-map None first others = refl
  and_then-map (Some g) first others = refl

  size_of-map : (o : Option Forest) → size_of (option_map (map_spans f) o) ≡ size_of o
  size_of-map None = refl
  size_of-map (Some g) = size-map_spans f g

  separator_size : (sep : Option Separator) → size (separator_leaves (option_map (separator_with f) sep)) ≡ size (separator_leaves sep)
  separator_size sep = ap size (separator_leaves-map f sep) ∙ size-map_spans f (separator_leaves sep)

  -- ---- repetitions

  module _ (stands_at stands_at' : ℕ → Bool) (tested : (r : ℕ) → stands_at' r ≡ stands_at r)
      (round_at round_at' : ℕ → Option Forest) (same : (r : ℕ) → round_at' r ≡ option_map (map_spans f) (round_at r))
      (output_at output_at' : ℕ → ℕ) (counted : (r : ℕ) → output_at' r ≡ output_at r) (separator : ℕ) where
    one_round : (r others others' : ℕ) → others' ≡ others → and_then (round_at' r) (output_at' r) others' ≡ and_then (round_at r) (output_at r) others
    one_round r others others' e =
        ap (λ o. and_then o (output_at' r) others') (same r) ∙ and_then-map (round_at r) (output_at' r) others'
        ∙ ap (λ n. and_then (round_at r) n others') (counted r) ∙ ap (and_then (round_at r) (output_at r)) e

    output_from-map : (most r : ℕ) → output_from stands_at' round_at' output_at' separator most r ≡ output_from stands_at round_at output_at separator most r
    output_from-map zero r = refl
    output_from-map (suc most) r =
        by_test (λ (n : ℕ). n) (stands_at r) (stands_at' r) _ 0 _ 0 (tested r)
        (ap (λ n. separator + n) (one_round r _ _ (output_from-map most (suc r)))) refl

    some_output-map : (most : ℕ) →
        elim (stands_at' 0) as (λ _. ℕ) [ true ↦ and_then (round_at' 0) (output_at' 0) (output_from stands_at' round_at' output_at' separator (most - 1) 1) | false ↦ 0 ]
        ≡ elim (stands_at 0) as (λ _. ℕ) [ true ↦ and_then (round_at 0) (output_at 0) (output_from stands_at round_at output_at separator (most - 1) 1) | false ↦ 0 ]
    some_output-map most =
        by_test (λ (n : ℕ). n) (stands_at 0) (stands_at' 0) _ 0 _ 0 (tested 0) (one_round 0 _ _ (output_from-map (most - 1) 1)) refl

    output_of_rounds-map : (most : ℕ) (op : RepeatKind) →
        output_of_rounds stands_at' round_at' output_at' separator most op ≡ output_of_rounds stands_at round_at output_at separator most op
    output_of_rounds-map most ZeroOrOne = by_test (λ (n : ℕ). n) (stands_at 0) (stands_at' 0) (output_at 0) 0 (output_at' 0) 0 (tested 0) (counted 0) refl
    output_of_rounds-map most ZeroOrMore = some_output-map most
    output_of_rounds-map most OneOrMore = some_output-map most

  -- ---- templates

  module _ (is_identifier : List ℕ → Bool) (most : ℕ) (mark : Span → Span) (commutes : (s : Span) → f (mark s) ≡ mark (f s)) (bound : Map) where
    output_in-map : (ns : List ℕ) (i : Items) → output_in is_identifier most mark (map_with f bound) ns (items_with f i) ≡ output_in is_identifier most mark bound ns i
    output_in-map ns done = refl
    output_in-map ns (item i rest) =
        let here : Option Forest = item_in is_identifier most mark bound ns i in
        rw (item_in-map f is_identifier most mark commutes bound ns i, output_in-map ns rest)
        (and_then-map here (size_of (option_map (map_spans f) here)) (output_in is_identifier most mark bound ns rest)
        ∙ ap (λ n. and_then here n (output_in is_identifier most mark bound ns rest)) (size_of-map here))
    output_in-map ns (group_of d inner rest) =
        rw (filled_in-map f is_identifier most mark commutes bound ns inner, output_in-map ns inner, output_in-map ns rest)
        (ap suc (and_then-map (filled_in is_identifier most mark bound ns inner) (output_in is_identifier most mark bound ns inner) (output_in is_identifier most mark bound ns rest)))
    output_in-map ns (repetition body sep op rest) =
        let stands_at : ℕ → Bool = λ r. round_stands is_identifier most mark bound body (ns ++ (r ∷ [])) in
        let stands_at' : ℕ → Bool = λ r. round_stands is_identifier most mark (map_with f bound) (items_with f body) (ns ++ (r ∷ [])) in
        let tested : (r : ℕ) → stands_at' r ≡ stands_at r = λ r. round_stands-map f is_identifier most mark commutes bound body (ns ++ (r ∷ [])) in
        let round_at : ℕ → Option Forest = λ r. filled_in is_identifier most mark bound (ns ++ (r ∷ [])) body in
        let round_at' : ℕ → Option Forest = λ r. filled_in is_identifier most mark (map_with f bound) (ns ++ (r ∷ [])) (items_with f body) in
        let same : (r : ℕ) → round_at' r ≡ option_map (map_spans f) (round_at r) = λ r. filled_in-map f is_identifier most mark commutes bound (ns ++ (r ∷ [])) body in
        let output_at : ℕ → ℕ = λ r. output_in is_identifier most mark bound (ns ++ (r ∷ [])) body in
        let output_at' : ℕ → ℕ = λ r. output_in is_identifier most mark (map_with f bound) (ns ++ (r ∷ [])) (items_with f body) in
        let counted : (r : ℕ) → output_at' r ≡ output_at r = λ r. output_in-map (ns ++ (r ∷ [])) body in
        let rounds' : Option Forest = rounds_of stands_at' round_at' (separator_leaves (option_map (separator_with f) sep)) most op in
        let rounds_here : Option Forest = rounds_of stands_at round_at (separator_leaves sep) most op in
        let rounds_same : rounds' ≡ option_map (map_spans f) rounds_here =
        ap (λ s. rounds_of stands_at' round_at' s most op) (separator_leaves-map f sep)
        ∙ rounds_of-map f stands_at stands_at' tested round_at round_at' same (separator_leaves sep) most op in
        let first' : ℕ = output_of_rounds stands_at' round_at' output_at' (size (separator_leaves (option_map (separator_with f) sep))) most op in
        let first : ℕ = output_of_rounds stands_at round_at output_at (size (separator_leaves sep)) most op in
        let first_same : first' ≡ first =
        ap (λ n. output_of_rounds stands_at' round_at' output_at' n most op) (separator_size sep)
        ∙ output_of_rounds-map stands_at stands_at' tested round_at round_at' same output_at output_at' counted (size (separator_leaves sep)) most op in
        let later' : ℕ = output_in is_identifier most mark (map_with f bound) ns (items_with f rest) in
        ap (λ o. and_then o first' later') rounds_same
        ∙ and_then-map rounds_here first' later'
        ∙ ap (λ n. and_then rounds_here n later') first_same
        ∙ ap (and_then rounds_here first) (output_in-map ns rest)

    pub output-map : (template : Items) → output is_identifier most mark (map_with f bound) (items_with f template) ≡ output is_identifier most mark bound template
    output-map template = output_in-map [] template

  -- ---- rules

  unless_fit-map : (o : Option Forest) (later : Bool) → unless_fit (option_map (map_spans f) o) later ≡ unless_fit o later
  unless_fit-map None later = refl
  unless_fit-map (Some g) later = refl

  module _ (is_identifier : List ℕ → Bool) (grammar : Grammar) (mark : Span → Span) (commutes : (s : Span) → f (mark s) ≡ mark (f s)) where
    template_bursts-map : (r : Rule) (o : Option (List Move)) →
        template_bursts is_identifier grammar mark (rule_with f r) (option_map (map (move_with f)) o) ≡ template_bursts is_identifier grammar mark r o
    template_bursts-map r None = refl
    template_bursts-map r (Some ms) =
        ap (nat_lt most_tokens)
        (ap (λ m. output is_identifier most_rounds mark m (items_with f r.template)) (bindings-map f ms)
        ∙ output-map is_identifier most_rounds mark commutes (bindings ms) r.template)

    rule_bursts-map : (style : MacroCallStyle) (r : Rule) (argument : Forest) →
        rule_bursts is_identifier grammar mark style (rule_with f r) (map_spans f argument) ≡ rule_bursts is_identifier grammar mark style r argument
    rule_bursts-map style r argument =
        by_test (λ (b : Bool). b) (same_style style r.style) (same_style style r.style) _ false _ false refl
        (ap (template_bursts is_identifier grammar mark (rule_with f r)) (the_reading-map f grammar r.pattern argument)
        ∙ template_bursts-map r (the_reading grammar r.pattern argument)) refl

    pub bursts-map : (rules : List Rule) (style : MacroCallStyle) (argument : Forest) →
        bursts is_identifier grammar mark (map (rule_with f) rules) style (map_spans f argument) ≡ bursts is_identifier grammar mark rules style argument
    bursts-map [] style argument = refl
    bursts-map (r ∷ rs) style argument =
        let later' : Bool = bursts is_identifier grammar mark (map (rule_with f) rs) style (map_spans f argument) in
        let fit_here : Option Forest = styled_fit is_identifier grammar mark style r argument in
        ap (λ b. b || unless_fit (styled_fit is_identifier grammar mark style (rule_with f r) (map_spans f argument)) later') (rule_bursts-map style r argument)
        ∙ ap (λ b. rule_bursts is_identifier grammar mark style r argument || b)
        (ap (λ o. unless_fit o later') (styled_fit-map f is_identifier grammar mark commutes style r argument)
        ∙ unless_fit-map fit_here later' ∙ ap (unless_fit fit_here) (bursts-map rs style argument))

    template_output-map : (r : Rule) (o : Option (List Move)) →
        template_output is_identifier grammar mark (rule_with f r) (option_map (map (move_with f)) o) ≡ template_output is_identifier grammar mark r o
    template_output-map r None = refl
    template_output-map r (Some ms) =
        ap (λ m. output is_identifier most_rounds mark m (items_with f r.template)) (bindings-map f ms)
        ∙ output-map is_identifier most_rounds mark commutes (bindings ms) r.template

    rule_output-map : (style : MacroCallStyle) (r : Rule) (argument : Forest) →
        rule_output is_identifier grammar mark style (rule_with f r) (map_spans f argument) ≡ rule_output is_identifier grammar mark style r argument
    rule_output-map style r argument =
        by_test (λ (n : ℕ). n) (same_style style r.style) (same_style style r.style) _ 0 _ 0 refl
        (ap (template_output is_identifier grammar mark (rule_with f r)) (the_reading-map f grammar r.pattern argument)
        ∙ template_output-map r (the_reading grammar r.pattern argument)) refl

    if_unfit-map : (o : Option Forest) (later : ℕ) → if_unfit (option_map (map_spans f) o) later ≡ if_unfit o later
    if_unfit-map None later = refl
    if_unfit-map (Some g) later = refl

    pub put_out-map : (rules : List Rule) (style : MacroCallStyle) (argument : Forest) →
        put_out is_identifier grammar mark (map (rule_with f) rules) style (map_spans f argument) ≡ put_out is_identifier grammar mark rules style argument
    put_out-map [] style argument = refl
    put_out-map (r ∷ rs) style argument =
        let later' : ℕ = put_out is_identifier grammar mark (map (rule_with f) rs) style (map_spans f argument) in
        let fit_here : Option Forest = styled_fit is_identifier grammar mark style r argument in
        ap (λ n. n + if_unfit (styled_fit is_identifier grammar mark style (rule_with f r) (map_spans f argument)) later') (rule_output-map style r argument)
        ∙ ap (λ n. rule_output is_identifier grammar mark style r argument + n)
        (ap (λ o. if_unfit o later') (styled_fit-map f is_identifier grammar mark commutes style r argument)
        ∙ if_unfit-map fit_here later' ∙ ap (if_unfit fit_here) (put_out-map rs style argument))

    module _ (edition : SyntaxContext → Edition) (keeps : (s : Span) → edition (f s).ctx ≡ edition s.ctx) where
      pub macro_rules_bursts-map : (body : Forest) (style : MacroCallStyle) (argument : Forest) →
          bursts is_identifier grammar mark (macro_rules_of edition (map_spans f body)).list style (map_spans f argument)
          ≡ bursts is_identifier grammar mark (macro_rules_of edition body).list style argument
      macro_rules_bursts-map body style argument =
          rw (macro_rules_of-map f edition keeps body) (bursts-map (macro_rules_of edition body).list style argument)

      pub macro_bursts-map : (arguments : Option Forest) (body : Forest) (style : MacroCallStyle) (argument : Forest) →
          bursts is_identifier grammar mark (macro_of edition (option_map (map_spans f) arguments) (map_spans f body)).list style (map_spans f argument)
          ≡ bursts is_identifier grammar mark (macro_of edition arguments body).list style argument
      macro_bursts-map arguments body style argument =
          rw (macro_of-map f edition keeps arguments body) (bursts-map (macro_of edition arguments body).list style argument)
