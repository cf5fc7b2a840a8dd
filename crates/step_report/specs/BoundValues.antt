-- JSON values that tell what metavariables stand for. (RFC 8259; of this project: the members.)
use Rattle.std.specs.Prelude.{Option, Some, None, codes, map}
use Rattle.tt_data.specs.Forest.{Forest}
use Rattle.mbe_explain.specs.Words.{specifier}
use Rattle.mbe_rules.specs.declared.parser.MetaVarKind.{MetaVarKind}
use Rattle.serde_json.specs.Data.{Data, array, null, string, object, member, no_members}
use Rattle.serde_json.specs.View.{items_of}
use Rattle.call_json.specs.Places.{numbers}
use Rattle.expander_trace.specs.Steps.{Attempt}
use Rattle.rule_bindings.specs.BoundRules.{BoundRule}
use Rattle.rule_bindings.specs.BoundValues.{BoundValue}
use Rattle.step_report.specs.Bound.{Context, attempt_bound, told_number}
use Rattle.step_report.specs.Tokens.{trees}

-- the kind of a fragment, if there is one
abbrev pub kind_if : Option (MetaVarKind × Forest) → Data
kind_if None = null
kind_if (Some f) = string (specifier f.0)

-- its tokens
abbrev pub tokens_if : Option (MetaVarKind × Forest) → Data
tokens_if None = null
tokens_if (Some f) = trees f.1

-- what a metavariable stands for in one iteration
abbrev pub binding : BoundValue → Data
binding v =
    object (member (codes "kind") (kind_if v.fragment)
    (member (codes "name") (string v.name)
    (member (codes "rounds") (numbers (map told_number v.iterations))
    (member (codes "tokens") (tokens_if v.fragment) no_members))))

-- what metavariables stand for, if a rule gives something
abbrev pub bindings : Option BoundRule → Data
bindings None = null
bindings (Some b) = array (items_of (map binding b.values))

abbrev pub bindings_if : Context → Option (Attempt Forest) → Data
bindings_if c None = null
bindings_if c (Some a) = bindings (attempt_bound c a)
