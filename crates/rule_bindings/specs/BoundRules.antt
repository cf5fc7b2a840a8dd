-- What is told of a rule that takes an argument. (Of this project.)
use Rattle.std.specs.Prelude.{ℕ, List, Option, option_and_then, option_map, slice_get}
use Rattle.tt_data.specs.Forest.{Forest}
use Rattle.mbe_rules.specs.Items.{Items, Rule}
use Rattle.mbe_matcher.specs.Bindings.{Map, bindings}
use Rattle.mbe_matcher.specs.Grammar.{Grammar}
use Rattle.mbe_matcher.specs.Readings.{the_reading}
use Rattle.rule_bindings.specs.BoundValues.{BoundValue, map_values}
use Rattle.rule_bindings.specs.Notes.{Notes, first_unequal, passed_over, unbound_names}

-- what the metavariables of a rule stand for in an argument, and where rustc refuses that
pub record BoundRule : Type 0 where
  pub values : List BoundValue
  pub notes : Notes

-- that of a rule with this transcriber, before which one is passed over or none, where its
-- metavariables are bound so
abbrev pub bound_with : Option ℕ → Items → Map → BoundRule
bound_with passed template m = record {
  values = map_values m;
  notes = record {
    passed_over = passed;
    unequal = first_unequal m template;
    unbound = unbound_names m template;
  };
}

-- that of a rule whose matcher matches an argument
abbrev pub bound_rule : Grammar → Forest → Option ℕ → Rule → Option BoundRule
bound_rule gr argument passed r =
    option_map (λ ms. bound_with passed r.template (bindings ms)) (the_reading gr r.pattern argument)

-- that of the rule with this number, from 0, if there is one
abbrev pub bound_by : Grammar → Forest → ℕ → List Rule → Option BoundRule
bound_by gr argument number list =
    option_and_then
    (λ r. bound_rule gr argument (passed_over gr argument list r.style number) r)
    (slice_get list number)
