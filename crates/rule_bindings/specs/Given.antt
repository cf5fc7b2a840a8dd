-- What the values of the code stand for.
use Rattle.std.specs.Prelude.{List, map, option_map}
use Rattle.tt.specs.Views.{forest}
use Rattle.tt_data.specs.Forest.{Forest}
use Rattle.mbe_rules.specs.declared.parser.MetaVarKind.{MetaVarKind}
use Rattle.rule_bindings.specs.BoundValues as spec
use Rattle.rule_bindings.specs.declared.value.BoundFragment.{BoundFragment}
use Rattle.rule_bindings.specs.BoundRules as rules
use Rattle.rule_bindings.specs.Notes as notes
use Rattle.rule_bindings.specs.declared.notes.BoundRule.{BoundRule}
use Rattle.rule_bindings.specs.declared.notes.Notes.{Notes}
use Rattle.rule_bindings.specs.declared.unequal.Counted.{Counted}
use Rattle.rule_bindings.specs.declared.unequal.Unequal.{Unequal}
use Rattle.rule_bindings.specs.declared.value.BoundValue.{BoundValue}

-- a fragment with its kind
abbrev pub fragment_given : BoundFragment → MetaVarKind × Forest
fragment_given f = (f.kind, forest f.trees)

-- what a name stands for in one iteration
abbrev pub value_given : BoundValue → spec.BoundValue
value_given v = record {
  name = v.name.now;
  iterations = v.iterations.items;
  fragment = option_map fragment_given v.fragment;
}

-- all these values
abbrev pub all_given : List BoundValue → List spec.BoundValue
all_given vs = map value_given vs

-- a metavariable with its iterations
abbrev pub counted_given : Counted → notes.Counted
counted_given c = record { name = c.name.now; count = c.count }

-- two that have not as many
abbrev pub unequal_given : Unequal → notes.Unequal
unequal_given u = record { one = counted_given u.one; other = counted_given u.other }

-- where rustc refuses a call
abbrev pub notes_given : Notes → notes.Notes
notes_given n = record {
  passed_over = n.passed_over;
  unequal = option_map unequal_given n.unequal;
  unbound = map (λ name. name.now) n.unbound.items;
}

-- what is told of a rule
abbrev pub rule_given : BoundRule → rules.BoundRule
rule_given b = record { values = all_given b.values.items; notes = notes_given b.notes }
