use Rattle.std.proofs.Common.{◌∙◌}
use Rattle.std.proofs.lemmas.Result.{IfOk-weaker}
use Rattle.mbe_matcher.specs.Bound.{map_of}
use Rattle.rule_bindings.specs.Walks.{weight_of_all}
use Rattle.rule_bindings.proofs.WalkLemmas.{first-lighter, in-first}
use Rattle.rule_bindings.proofs.walk.Walk.enter_first.Goals as goal

pub returns-clause-left : goal.returns-clause-left
returns-clause-left c =
    IfOk-weaker c.enter.result _ _
    (λ o left. left ∙ in-first (map_of c.args.bindings.now) c.args.self.now.rounds.items
    c.in-Some.first.now c.args.ops.now c.in-Some.rest c.in-Some.ensures.cases.0
    c.args.self.now.tasks.items c.push.new.self.items c.in_ok-push.ensures.items)
    c.enter.ensures.left

pub returns-clause-fewer : goal.returns-clause-fewer
returns-clause-fewer c =
    IfOk-weaker c.enter.result _ _
    (λ o fewer. first-lighter (map_of c.args.bindings.now) c.args.self.now.rounds.items
    c.in-Some.first.now c.args.ops.now c.in-Some.rest c.in-Some.ensures.cases.0
    c.args.self.now.tasks.items c.push.new.self.items c.in_ok-push.ensures.items
    (weight_of_all c.enter.new.self.tasks.items) fewer)
    c.enter.ensures.fewer
