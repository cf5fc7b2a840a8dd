-- What a call puts out, and what limits leave of it.
use Rattle.std.proofs.Common.{◌≡◌, ◌<◌, ◌≤◌, ◌+◌, ◌-◌, ◌^◌, ◌∙◌, ℕ, suc, zero, List, [], ◌∷◌, Bool, true, false, refl, subst, ap, arith}
use Rattle.std.specs.Prelude.{◌||◌, Option, Some, None, is_some, nat_lt, not, option_map, if◌then◌else◌, Result, Err}
use Rattle.std.proofs.lemmas.Bool.Decides.{nat_tests}
use Rattle.tt.specs.Building.{most_tokens}
use Rattle.tt.specs.Tops.{Top}
use Rattle.tt_data.specs.Forest.{Forest}
use Rattle.tt_data.specs.declared.delimiter.Delimiter.{Delimiter}
use Rattle.tt_data.specs.declared.span.Span.{Span}
use Rattle.mbe_rules.specs.Items.{Rule, Rules}
use Rattle.mbe_rules.specs.declared.macro_call_style.MacroCallStyle.TheVariants.{FnLike}
use Rattle.mbe.specs.Markers.{is_name}
use Rattle.expander_model.specs.World.{made}
use Rattle.expander_model.specs.declared.fault.FaultKind.{FaultKind}
use Rattle.expander_model.specs.declared.fault.FaultKind.TheVariants.{BrokenDefinition}
use Rattle.expander_trace.specs.Steps.{fitted}
use Rattle.mbe_rules.specs.declared.macro_call_style.MacroCallStyle.{MacroCallStyle}
use Rattle.mbe.specs.Answers.{within}
use Rattle.mbe_matcher.specs.Readings.{Move, the_reading}
use Rattle.mbe.specs.Bursts.{bursts, rule_bursts, template_bursts, unless_fit}
use Rattle.mbe.specs.Fit.{fit, same_style, styled_fit}
use Rattle.mbe.specs.Grammar.{Grammar}
use Rattle.mbe.specs.PutOut.{if_unfit, left_of, put_out, rule_output, template_output}
use Rattle.expander_trace.specs.Trying.{tree_in}

-- the trees that a rule gives
pub trees_are : (top : Delimiter) (o : Option (ℕ × Forest)) (given : Option (ℕ × Top)) → given ≡ option_map (λ (r : ℕ × Forest). (r.0, within top r.1)) o → option_map tree_in given ≡ o
trees_are top None given e = ap (option_map tree_in) e
trees_are top (Some r) given e = ap (option_map tree_in) e

-- ---- what limits leave

-- so many were put out
pub spent_is : (m n left : ℕ) → left_of (Some m) n ≡ Some (Some left) → m - left ≡ n
spent_is m n left e = go (nat_lt m n) refl e
  where
    go : (b : Bool) → nat_lt m n ≡ b → (if b then None else Some (Some (m - n))) ≡ Some (Some left) → m - left ≡ n
    go true is h = absurd (cc h)
    go false is h =
        let same : left ≡ m - n = cc h in
        let most : n ≤ m = grind (arith, nat_tests, is) in
        ap (λ x. m - x) same ∙ omega (arith, most)

-- what is left is known
pub left_known : (m n : ℕ) (left : Option ℕ) → left_of (Some m) n ≡ Some left → is_some left ≡ true
left_known m n left e = go (nat_lt m n) e
  where
    go : (b : Bool) → (if b then None else Some (Some (m - n))) ≡ Some left → is_some left ≡ true
    go true h = absurd (cc h)
    go false h = let same : left ≡ Some (m - n) = cc h in ap is_some same

-- it is told by whether it is known
pub fits_is : {X : Type 0} (m n : ℕ) (o : Option X) (left : X → Option ℕ) → option_map left o ≡ left_of (Some m) n → is_some o ≡ not (nat_lt m n)
fits_is m n None left e = go (nat_lt m n) e
  where
    go : (b : Bool) → None ≡ (if b then None else Some (Some (m - n))) → false ≡ not b
    go true h = refl
    go false h = absurd (cc h)
fits_is m n (Some x) left e = go (nat_lt m n) e
  where
    go : (b : Bool) → Some (left x) ≡ (if b then None else Some (Some (m - n))) → true ≡ not b
    go true h = absurd (cc h)
    go false h = refl

-- ---- too many tokens for a tree

module _ (is_identifier : List ℕ → Bool) (grammar : Grammar) (mark : Span → Span) (style : MacroCallStyle) (argument : Forest) where
  rule_large : (r : Rule) → rule_bursts is_identifier grammar mark style r argument ≡ true → most_tokens < rule_output is_identifier grammar mark style r argument
  rule_large r e = by_style (same_style style r.style) (the_reading grammar r.pattern argument) e
    where
      by_style : (b : Bool) (o : Option (List Move)) → (elim b [ true ↦ template_bursts is_identifier grammar mark r o | false ↦ false ]) ≡ true
          → most_tokens < (elim b [ true ↦ template_output is_identifier grammar mark r o | false ↦ 0 ])
      by_style true None h = absurd (cc h)
      by_style true (Some ms) h = grind (arith, nat_tests, h)
      by_style false o h = absurd (cc h)

  -- rules that put out too many tokens for a tree put out more than any limit
  pub bursts_large : (list : List Rule) → bursts is_identifier grammar mark list style argument ≡ true → most_tokens < put_out is_identifier grammar mark list style argument
  bursts_large [] e = absurd (cc e)
  bursts_large (r ∷ list) e =
      go (rule_bursts is_identifier grammar mark style r argument) (styled_fit is_identifier grammar mark style r argument) (rule_large r) (bursts_large list) e
    where
      go : (b : Bool) (o : Option Forest) → (b ≡ true → most_tokens < rule_output is_identifier grammar mark style r argument)
          → (bursts is_identifier grammar mark list style argument ≡ true → most_tokens < put_out is_identifier grammar mark list style argument)
          → (b || unless_fit o (bursts is_identifier grammar mark list style argument)) ≡ true
          → most_tokens < rule_output is_identifier grammar mark style r argument + if_unfit o (put_out is_identifier grammar mark list style argument)
      go true o here later h = omega (arith, here refl)
      go false (Some f) here later h = absurd (cc h)
      go false None here later h = omega (arith, later h)

  -- so they put out more than this limit
  pub passes_limit : (list : List Rule) (m : ℕ) → m < 2 ^ 32 → bursts is_identifier grammar mark list style argument ≡ true → None ≡ left_of (Some m) (put_out is_identifier grammar mark list style argument)
  passes_limit list m small e =
      let large : most_tokens < put_out is_identifier grammar mark list style argument = bursts_large list e in
      let test : nat_lt m (put_out is_identifier grammar mark list style argument) ≡ true = grind (arith, nat_tests, small, large) in
      rw test refl

-- ---- what a call gives that is tried

deep_is : (depth : ℕ) (x : Result (ℕ × Forest) FaultKind) (o : Option (ℕ × Forest)) → 0 < depth → ((n : ℕ) → x ≡ fitted (suc n) o) → x ≡ fitted depth o
deep_is zero x o h is = absurd (omega (arith, h))
deep_is (suc n) x o h is = is n

pub given_deep : (grammar : Grammar) (own two : Rules) (depth : ℕ) (argument : Forest) (x : Result (ℕ × Forest) FaultKind) (o : Option (ℕ × Forest)) → own ≡ two → is_some own.err ≡ false → 0 < depth
    → o ≡ fit is_name grammar made own.list FnLike argument → ((n : ℕ) → x ≡ fitted (suc n) o)
    → x ≡ (if is_some two.err then Err BrokenDefinition else fitted depth (fit is_name grammar made two.list FnLike argument))
given_deep grammar own two depth argument x o same whole deep gives is =
    subst (λ (r : Rules). x ≡ (if is_some r.err then Err BrokenDefinition else fitted depth (fit is_name grammar made r.list FnLike argument))) same
    (rw whole (deep_is depth x o deep is ∙ ap (fitted depth) gives))
