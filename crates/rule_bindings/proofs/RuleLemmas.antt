-- The rule with a number.
use Rattle.std.proofs.Common.{◌≡◌, refl, sym, ap, ◌∙◌, ℕ, zero, suc, ◌<◌, ◌≤◌, Bool, true, false}
use Rattle.std.proofs.Common.{◌||◌, List, [], ◌∷◌, Option, None, length, map, take}
use Rattle.std.proofs.Common.{get_or, option_and_then, option_map, slice_get}
use Rattle.std.specs.List.{list_any, take-map}
use Rattle.std.proofs.lemmas.Option.{slice_get-map, slice_get_past, slice_get_read}
use Rattle.tt_data.specs.Forest.{Forest}
use Rattle.mbe_matcher.specs.Grammar.{Grammar}
use Rattle.mbe_rules.specs.Items as spec
use Rattle.mbe_rules.specs.Ops.{rule_of}
use Rattle.mbe_rules.specs.declared.rules.Rule.{Rule}
use Rattle.rule_bindings.specs.BoundRules.{BoundRule, bound_by, bound_rule}
use Rattle.rule_bindings.specs.Notes.{first_ambiguous, passed_over}

-- what holds of no element holds of none of the first
none-or : (b c d : Bool) → (c ≡ false → d ≡ false) → (b || c) ≡ false → (b || d) ≡ false
none-or true c d f h = absurd (cc h)
none-or false c d f h = f h

none-before : {A : Type 0} (p : A → Bool) (n : ℕ) (xs : List A) → list_any p xs ≡ false
    → list_any p (take n xs) ≡ false
none-before p zero xs h = refl
none-before p (suc n) [] h = refl
none-before p (suc n) (x ∷ xs) h =
    none-or (p x) (list_any p xs) (list_any p (take n xs)) (none-before p n xs) h

pub none-in-front : {A B : Type 0} (p : B → Bool) (f : A → B) (n : ℕ) (xs front : List A)
    → front ≡ take n xs → list_any p (map f xs) ≡ false → list_any p (map f front) ≡ false
none-in-front p f n xs front is h =
    ap (λ l. list_any p (map f l)) is ∙ ap (list_any p) (sym (take-map f n xs))
    ∙ none-before p n (map f xs) h

module _ (gr : Grammar) (argument : Forest) (rules : List Rule) (list : List spec.Rule)
    (same : map rule_of rules ≡ list) (number : ℕ) where
  abbrev bound_one : spec.Rule → Option BoundRule
  bound_one r = bound_rule gr argument (passed_over gr argument list r.style number) r

  -- it is among the rules
  pub found-rule : (rule : Rule) → number < length rules → rule ≡ get_or rules number rule
      → (front : List Rule) → front ≡ take number rules → (passed : Option ℕ)
      → passed ≡ first_ambiguous gr argument rule.style 0 (map rule_of front)
      → bound_rule gr argument passed (rule_of rule) ≡ bound_by gr argument number list
  found-rule rule inside here front is passed e =
      ap (λ p. bound_rule gr argument p (rule_of rule))
      (e ∙ ap (λ l. first_ambiguous gr argument rule.style 0 (map rule_of l)) is
      ∙ ap (first_ambiguous gr argument rule.style 0)
      (sym (take-map rule_of number rules) ∙ ap (take number) same))
      ∙ ap (option_and_then bound_one)
      (sym (ap (λ l. slice_get l number) (sym same) ∙ slice_get-map rule_of rules number
      ∙ ap (option_map rule_of) (slice_get_read rules (length rules) number rule refl inside here)))

  -- or there is none
  pub no-rule : length rules ≤ number → None ≡ bound_by gr argument number list
  no-rule past =
      ap (option_and_then bound_one)
      (sym (ap (λ l. slice_get l number) (sym same) ∙ slice_get-map rule_of rules number
      ∙ ap (option_map rule_of) (slice_get_past rules number past)))
