use Rattle.std.proofs.Common.{◌≡◌, ◌<◌, [], ◌++◌, ◌∙◌, List, ap, arith, length}
use Rattle.std.proofs.lemmas.List.{nil_from_length}
use Rattle.std.proofs.lemmas.Result.{IfOk-weaker}
use Rattle.rule_bindings.specs.BoundValues.{BoundValue}
use Rattle.rule_bindings.specs.Given.{all_given}
use Rattle.rule_bindings.proofs.OpenLemmas.{no-rounds, rounds-weight, some-rounds}
use Rattle.rule_bindings.proofs.flatten.push_or_open.Goals as goal

pub returns-then-is_empty-clause-values : goal.returns-then-is_empty-clause-values
returns-then-is_empty-clause-values c =
    let empty = c.is_empty.ensures in
    let yes = c.if-is_empty.true in
    let ok = c.in-Rounds.values.ok in
    let none : c.in-Rounds.values.items ≡ [] = nil_from_length _ (grind (arith, empty, yes, ok)) in
    no-rounds c.args.name.now c.args.around.now.items c.deref-then-is_empty.result.now
    c.args.binding.now c.in-Rounds.values (all_given c.args.found.now.items)
    (all_given c.push_value-then-is_empty.new.found.items) c.in-Rounds.is none
    c.deref-then-is_empty.ensures.value c.in_ok-push_value-in-Rounds.ensures

pub returns-else-is_empty-clause-values : goal.returns-else-is_empty-clause-values
returns-else-is_empty-clause-values c =
    let empty = c.is_empty.ensures in
    let no = c.if-is_empty.false in
    let ok = c.in-Rounds.values.ok in
    let some : 0 < length c.in-Rounds.values.items = grind (arith, empty, no, ok) in
    IfOk-weaker c.open_first.result _ _
    (λ here left. ap (λ (l : List BoundValue). all_given c.args.found.now.items ++ l)
    (left ∙ some-rounds c.args.name.now c.args.around.now.items c.args.binding.now
    c.in-Rounds.values c.deref-in-Rounds.result.now c.in-Rounds.is some c.deref-in-Rounds.ensures.value))
    (c.open_first.ensures.left c.args.name.now)

pub returns-else-is_empty-clause-lighter : goal.returns-else-is_empty-clause-lighter
returns-else-is_empty-clause-lighter c =
    let whole = rounds-weight c.args.binding.now c.in-Rounds.values c.deref-in-Rounds.result.now
    c.in-Rounds.is c.deref-in-Rounds.ensures.value in
    IfOk-weaker c.open_first.result _ _ (λ here lighter. omega (arith, lighter, whole))
    c.open_first.ensures.lighter
