use Rattle.std.proofs.Common.{ap, arith, sym, ◌∙◌, reverse, subst}
use Rattle.mbe_matcher.specs.Bound.{map_of}
use Rattle.mbe_transcriber.specs.Tasks.{IsBurstIn, Steps, outcome, tasks_of_all}
use Rattle.mbe_transcriber.specs.declared.transcriber.TranscribeTask.TheVariants.{Items}
use Rattle.mbe_transcriber.proofs.FillTaskLemmas.{fewer-still, first-inside, inside-left, items-steps, led, left-fewer, left-stopped, no-items, none-there, one-more, plain-left, rest-planned}
use Rattle.mbe_transcriber.proofs.transcriber.Transcription.put_items.Goals as goal

pub enter-requires-clause-inside : goal.enter-requires-clause-inside
enter-requires-clause-inside g c =
    first-inside c.in-Some-split_first.first.now c.in-Some.left.now c.in-Some-split_first.rest.now c.in-Some-split_first.ensures.cases.0
    ∙ inside-left c.in-Some-split_first.first.now c.in-Some.left.now c.in-Some-split_first.rest.now c.has_ops.result c.in-Some-split_first.ensures.cases.0
    c.has_ops.ensures c.if-not-has_ops.false

pub returns-then-not-has_ops-clause-left : goal.returns-then-not-has_ops-clause-left
returns-then-not-has_ops-clause-left g c = λ mark is.
    led mark (map_of c.args.bindings.now) (reverse c.args.self.now.tasks.items) c.args.self.now.rounds.items c.deref.result.now c.args.ops c.in-Some.left
    c.args.out.now.tree c.put_leading.new.out.tree _ c.deref.ensures.value c.in-Some.is (c.in_ok-left.ensures.left mark (reverse c.args.self.now.tasks.items) is)
    ∙ rest-planned mark (map_of c.args.bindings.now) c.args.self.now.tasks.items c.plan.new.self.tasks.items c.args.self.now.rounds.items c.plan.new.self.rounds.items
    c.in-Some.left c.put_leading.new.out.tree c.in_ok-plan.ensures.tasks c.in_ok-plan.ensures.rounds

pub returns-then-not-has_ops-clause-fewer : goal.returns-then-not-has_ops-clause-fewer
returns-then-not-has_ops-clause-fewer g c =
    let plain =
    plain-left c.in-Some-split_first.first.now c.in-Some.left.now c.in-Some-split_first.rest.now c.has_ops.result c.in-Some-split_first.ensures.cases.0
    c.has_ops.ensures c.if-not-has_ops.true in
    let less = left-stopped _ c.in-Some.left _ c.in-Some.is c.in_ok-left.ensures.stopped plain in
    let more = one-more c.args.self.now.tasks.items (Items c.in-Some.left) in
    let is = ap tasks_of_all c.in_ok-plan.ensures.tasks in
    omega (arith, less, more, is)

pub returns-in_default-split_first-clause-left : goal.returns-in_default-split_first-clause-left
returns-in_default-split_first-clause-left g c = λ mark is.
    led mark (map_of c.args.bindings.now) (reverse c.args.self.now.tasks.items) c.args.self.now.rounds.items c.deref.result.now c.args.ops c.in-Some.left
    c.args.out.now.tree c.put_leading.new.out.tree _ c.deref.ensures.value c.in-Some.is (c.in_ok-left.ensures.left mark (reverse c.args.self.now.tasks.items) is)
    ∙ no-items mark (map_of c.args.bindings.now) c.args.self.now.rounds.items c.in-Some.left (reverse c.args.self.now.tasks.items) c.put_leading.new.out.tree
    (none-there c.in-Some.left.now c.in_default-split_first.ensures.cases)

pub returns-clause-left : goal.returns-clause-left
returns-clause-left g c = λ mark is.
    subst
    (λ o. Steps c.enter.result c.enter.new.out.tree o (outcome mark (map_of c.args.bindings.now) (reverse c.enter.new.self.tasks.items) c.enter.new.self.rounds.items c.enter.new.out.tree))
    (sym
    (led mark (map_of c.args.bindings.now) (reverse c.args.self.now.tasks.items) c.args.self.now.rounds.items c.deref.result.now c.args.ops c.in-Some.left
    c.args.out.now.tree c.put_leading.new.out.tree _ c.deref.ensures.value c.in-Some.is (c.in_ok-left.ensures.left mark (reverse c.args.self.now.tasks.items) is)
    ∙ items-steps mark (map_of c.args.bindings.now) c.args.self.now.tasks.items c.plan_rest.new.self.tasks.items c.args.self.now.rounds.items
    c.plan_rest.new.self.rounds.items c.in-Some.left c.in-Some-split_first.rest c.in-Some-split_first.first.now c.put_leading.new.out.tree c.in-Some-split_first.ensures.cases.0
    c.in_ok-plan_rest.ensures.rounds (λ b. c.in_ok-plan_rest.ensures.left mark (map_of c.args.bindings.now) b)))
    (c.enter.ensures.left mark is)

pub returns-clause-tokens : goal.returns-clause-tokens
returns-clause-tokens g c = λ mark is.
    subst (λ o. IsBurstIn c.enter.result o)
    (sym
    (led mark (map_of c.args.bindings.now) (reverse c.args.self.now.tasks.items) c.args.self.now.rounds.items c.deref.result.now c.args.ops c.in-Some.left
    c.args.out.now.tree c.put_leading.new.out.tree _ c.deref.ensures.value c.in-Some.is (c.in_ok-left.ensures.left mark (reverse c.args.self.now.tasks.items) is)
    ∙ items-steps mark (map_of c.args.bindings.now) c.args.self.now.tasks.items c.plan_rest.new.self.tasks.items c.args.self.now.rounds.items
    c.plan_rest.new.self.rounds.items c.in-Some.left c.in-Some-split_first.rest c.in-Some-split_first.first.now c.put_leading.new.out.tree c.in-Some-split_first.ensures.cases.0
    c.in_ok-plan_rest.ensures.rounds (λ b. c.in_ok-plan_rest.ensures.left mark (map_of c.args.bindings.now) b)))
    (c.enter.ensures.tokens mark is)

pub returns-clause-fewer : goal.returns-clause-fewer
returns-clause-fewer g c =
    fewer-still c.enter.result c.args.self.now.tasks.items c.plan_rest.new.self.tasks.items c.enter.new.self.tasks.items c.args.ops.now c.in-Some.left.now
    c.in-Some-split_first.rest.now c.in-Some-split_first.first.now c.in-Some-split_first.ensures.cases.0 (left-fewer _ c.in-Some.left _ c.in-Some.is c.in_ok-left.ensures.fewer) c.in_ok-plan_rest.ensures.fewer c.enter.ensures.fewer
