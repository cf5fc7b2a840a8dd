use Rattle.std.proofs.Common.{◌∙◌, ap, reverse}
use Rattle.std.specs.Option.{option_or}
use Rattle.std.proofs.lemmas.Result.{IfOk-weaker}
use Rattle.mbe_matcher.specs.Bound.{map_of}
use Rattle.rule_bindings.specs.Walks.{left_in, weight_of_all}
use Rattle.rule_bindings.proofs.WalkLemmas.{group-lighter, in-group, repetition-first}
use Rattle.rule_bindings.proofs.WalkLemmas.{repetition-lighter}
use Rattle.rule_bindings.proofs.walk.Walk.enter.Goals as goal

pub returns-in_ok-push-in-Subtree-clause-left : goal.returns-in_ok-push-in-Subtree-clause-left
returns-in_ok-push-in-Subtree-clause-left c =
    in-group (map_of c.args.bindings.now) c.args.self.now.rounds.items c.args.op.now c.deref.result
    c.in-Subtree.tokens c.deref.ensures.value c.in-Subtree.delimiter c.in-Subtree.is
    c.args.self.now.tasks.items c.push.new.self.items c.in_ok-push-in-Subtree.ensures.items

pub returns-in_ok-push-in-Subtree-clause-fewer : goal.returns-in_ok-push-in-Subtree-clause-fewer
returns-in_ok-push-in-Subtree-clause-fewer c =
    group-lighter (map_of c.args.bindings.now) c.args.self.now.rounds.items c.args.op.now
    c.deref.result c.in-Subtree.tokens c.deref.ensures.value c.in-Subtree.delimiter
    c.in-Subtree.is c.args.self.now.tasks.items c.push.new.self.items
    c.in_ok-push-in-Subtree.ensures.items

pub returns-in-Repeat-clause-left : goal.returns-in-Repeat-clause-left
returns-in-Repeat-clause-left c =
    let m = map_of c.args.bindings.now in
    let ns = c.args.self.now.rounds.items in
    IfOk-weaker c.enter_rounds.result _ _
    (λ o left. left ∙ ap (λ u. option_or u (left_in m (reverse c.args.self.now.tasks.items) ns))
    (repetition-first m ns c.args.op.now c.deref-in-Repeat.result c.in-Repeat.tokens
    c.deref-in-Repeat.ensures.value c.in-Repeat.separator c.in-Repeat.kind c.in-Repeat.is))
    c.enter_rounds.ensures.left

pub returns-in-Repeat-clause-fewer : goal.returns-in-Repeat-clause-fewer
returns-in-Repeat-clause-fewer c =
    IfOk-weaker c.enter_rounds.result _ _
    (λ o fewer. repetition-lighter (map_of c.args.bindings.now) c.args.self.now.rounds.items
    c.args.op.now c.deref-in-Repeat.result c.in-Repeat.tokens c.deref-in-Repeat.ensures.value
    c.in-Repeat.separator c.in-Repeat.kind c.in-Repeat.is
    (weight_of_all c.args.self.now.tasks.items)
    (weight_of_all c.enter_rounds.new.self.tasks.items) fewer)
    c.enter_rounds.ensures.fewer
