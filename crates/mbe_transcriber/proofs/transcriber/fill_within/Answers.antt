use Rattle.std.proofs.Common.{◌≡◌, ◌∙◌, ◌<◌, [], ap, arith, reverse, rules, subst, sym}
use Rattle.tt.specs.Building.{count_of, most_tokens}
use Rattle.mbe_rules.specs.Ops.{items_of}
use Rattle.mbe_matcher.specs.Bound.{map_of}
use Rattle.mbe_transcriber.specs.Given.{gives, puts_out}
use Rattle.mbe_transcriber.specs.Tasks.{GoesOn, filled_up, items_and, outcome, reached}
use Rattle.mbe_transcriber.proofs.FillLemmas.{sized-gives}
use Rattle.mbe_transcriber.proofs.FillTaskLemmas.{all-burst, ends-faulty, ends-passed, ends-whole, never-less, popped, step-done, step-failed, stepped}
use Rattle.mbe_transcriber.proofs.PuttingLemmas.{handed}
use Rattle.mbe_transcriber.proofs.transcriber.fill_within.Goals as goal

pub returns-in_err-whole-clause-tokens : goal.returns-in_err-whole-clause-tokens
returns-in_err-whole-clause-tokens g c = λ mark is e.
    let bound = map_of c.args.bindings.now in
    let i = items_of c.args.template.now in
    all-burst c.args.out.now.tree (gives mark bound [] i) (puts_out mark bound [] i) (sized-gives mark bound [] i)
    (subst (λ o. most_tokens < reached o)
    (sym
    (popped mark bound c.loop-task.left.tasks.items c.pop.new.self.items c.in-Some.task c.loop-task.left.rounds.items c.loop-task.out.tree
    (items_and mark bound [] i c.args.out.now.tree filled_up) c.in-Some.ensures.items (c.loop-task.invariant.0 mark is)))
    (c.in_err-whole.ensures.tokens mark is (handed c.from_residual-in_err-whole.result _ c.from_residual-in_err-whole.ensures.1 e)))

pub returns-then-len-most-clause-ends : goal.returns-then-len-most-clause-ends
returns-then-len-most-clause-ends g c = λ mark is.
    let bound = map_of c.args.bindings.now in
    let i = items_of c.args.template.now in
    let start = items_and mark bound [] i c.args.out.now.tree filled_up in
    let after = outcome mark bound (reverse c.step.new.self.tasks.items) c.step.new.self.rounds.items c.step.new.out.tree in
    let on : GoesOn c.in_ok-whole.whole c.step.new.out.tree start after =
    stepped mark bound c.loop-task.left.tasks.items c.pop.new.self.items c.in-Some.task c.loop-task.left.rounds.items c.loop-task.out.tree start
    c.in_ok-whole.whole c.step.new.out.tree after c.in-Some.ensures.items (c.loop-task.invariant.0 mark is) (c.in_ok-whole.ensures.left mark is) in
    ends-passed c.args.out.now.tree (gives mark bound [] i) (puts_out mark bound [] i) c.args.most (count_of c.step.new.out.tree) (sized-gives mark bound [] i)
    (never-less mark bound c.in_ok-whole.whole c.step.new.out.tree start (reverse c.step.new.self.tasks.items) c.step.new.self.rounds.items on) (omega (arith, c.len.ensures, c.if-len-most.true))

pub returns-then-not-whole-clause-ends : goal.returns-then-not-whole-clause-ends
returns-then-not-whole-clause-ends g c = λ mark is.
    let bound = map_of c.args.bindings.now in
    let i = items_of c.args.template.now in
    let start = items_and mark bound [] i c.args.out.now.tree filled_up in
    let after = outcome mark bound (reverse c.step.new.self.tasks.items) c.step.new.self.rounds.items c.step.new.out.tree in
    let on : GoesOn c.in_ok-whole.whole c.step.new.out.tree start after =
    stepped mark bound c.loop-task.left.tasks.items c.pop.new.self.items c.in-Some.task c.loop-task.left.rounds.items c.loop-task.out.tree start
    c.in_ok-whole.whole c.step.new.out.tree after c.in-Some.ensures.items (c.loop-task.invariant.0 mark is) (c.in_ok-whole.ensures.left mark is) in
    ends-faulty c.args.out.now.tree c.step.new.out.tree (gives mark bound [] i) (puts_out mark bound [] i) c.args.most
    (step-failed mark bound c.in_ok-whole.whole c.step.new.out.tree start after c.if-not-whole.true on) (omega (arith, c.len.ensures, c.if-len-most.false))

pub returns-clause-ends : goal.returns-clause-ends
returns-clause-ends g c = λ mark is.
    let bound = map_of c.args.bindings.now in
    let i = items_of c.args.template.now in
    let none : c.loop-task.left.tasks.items ≡ [] = search rules in
    ends-whole c.args.out.now.tree c.loop-task.out.tree (gives mark bound [] i) (puts_out mark bound [] i) c.args.most (sized-gives mark bound [] i)
    (c.loop-task.invariant.0 mark is ∙ ap (λ ts. outcome mark bound (reverse ts) c.loop-task.left.rounds.items c.loop-task.out.tree) none)
    (c.loop-task.invariant.1 none)

pub loop-task-preserved : goal.loop-task-preserved
loop-task-preserved g c = (
  λ mark is.
      let bound = map_of c.args.bindings.now in
      let start = items_and mark bound [] (items_of c.args.template.now) c.args.out.now.tree filled_up in
      let after = outcome mark bound (reverse c.step.new.self.tasks.items) c.step.new.self.rounds.items c.step.new.out.tree in
      step-done mark bound c.in_ok-whole.whole c.step.new.out.tree start after c.if-not-whole.false
      (stepped mark bound c.loop-task.left.tasks.items c.pop.new.self.items c.in-Some.task c.loop-task.left.rounds.items c.loop-task.out.tree start
      c.in_ok-whole.whole c.step.new.out.tree after c.in-Some.ensures.items (c.loop-task.invariant.0 mark is) (c.in_ok-whole.ensures.left mark is)),
  λ none. omega (arith, c.len.ensures, c.if-len-most.false),
)
