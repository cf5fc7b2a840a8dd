-- Why no rule fits a call. (Of this project.)
use Rattle.std.specs.Prelude.{◌≡◌, ℕ, List, Some, Result, Ok, Err, slice_get, option_map}
use Rattle.serde_json.specs.View.{view}
use Rattle.mbe.specs.Macros.{rules_of}
use Rattle.mbe.specs.Grammar.{Grammar}
use Rattle.mbe_explain.specs.declared.rules.Explanation.{Explanation}
use Rattle.call_messages.specs.Knowns.{IsExplained}
use Rattle.call_messages.specs.Unfits.{nearest_unfit}
use Rattle.call_messages.specs.declared.known.Known.{Known}
use Rattle.call_messages.specs.declared.unfit.Unfit.{Unfit}
use Rattle.call_json.specs.Rules.{all_rules, name, number_of}
use Rattle.call_json.specs.declared.why.Why.{Why}

-- the parts of a value: the definition of a call, the number of the rule that is nearest to a match,
-- where none fits, and how all rules take the argument
pub record Describes (text : List ℕ) (known : Known) (e : Explanation) (why : Why) : Type 0 where
  pub definition : view why.definition ≡ name text known.definition.name
  pub place : ℕ
  pub is_nearest : nearest_unfit e ≡ Ok place
  pub nearest : option_map (λ r. number_of r.index) (slice_get e.rules.items place)
      ≡ Some why.nearest
  pub all : view why.rules ≡ all_rules text known.call e.rules.items

-- these parts, or why there are none: a rule fits, or there are no rules
abbrev pub IsWhyOf : List ℕ → Known → Explanation → Result Why Unfit → Type 0
IsWhyOf text known e (Ok why) = Describes text known e why
IsWhyOf text known e (Err unfit) = nearest_unfit e ≡ Err unfit

-- by how the rules of a call's definition take its argument
abbrev pub IsWhy : Grammar → List ℕ → Known → Result Why Unfit → Type 0
IsWhy gr text known why =
    (e : Explanation) × IsExplained gr (rules_of known.rules).list known.call.argument e
    × IsWhyOf text known e why
