use Rattle.std.proofs.Common.{◌∙◌, ◌++◌, [], List, Some, ap, sym}
use Rattle.mbe_matcher.specs.Bound.{standing_for, values_of}
use Rattle.mbe_matcher.specs.declared.bindings.Binding.{Binding}
use Rattle.rule_bindings.specs.BoundValues.{values_from}
use Rattle.rule_bindings.specs.Open.{left_values, numbers, rest_values}
use Rattle.rule_bindings.specs.declared.open.Open.{Open}
use Rattle.rule_bindings.proofs.OpenLemmas.{opened-first, opened-lighter}
use Rattle.rule_bindings.proofs.flatten.open_first.Goals as goal

pub returns-clause-left : goal.returns-clause-left
returns-clause-left c = λ name.
    let os = c.args.around.now.items in
    let first = c.in-Some.first.now in
    ap (λ (l : List Open). left_values name l (Some (standing_for first)))
    c.in_ok-push.ensures.items
    ∙ opened-first os _ first name
    ∙ ap (λ (vs : List Binding). values_from name (numbers os) c.args.number (values_of vs)
    ++ rest_values name [] os)
    (sym c.in-Some.ensures.cases.0)

pub returns-clause-lighter : goal.returns-clause-lighter
returns-clause-lighter c =
    opened-lighter c.args.around.now.items _ c.in-Some.first.now c.push.new.self.items
    c.args.values.now c.in_ok-push.ensures.items c.in-Some.ensures.cases.0
