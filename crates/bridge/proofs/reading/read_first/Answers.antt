-- Token by token: where it starts, and what it adds.
use Rattle.std.proofs.Common.{◌≤◌, ◌+◌, length, arith, subst}
use Rattle.bridge.proofs.AddingLemmas.{handed_on}
use Rattle.bridge.proofs.ReadTokensLemmas.{reads_fault, reads_on, refuses}
use Rattle.bridge.specs.Parts.{part_steps}
use Rattle.bridge.specs.ReadSteps.{Takes, steps_at}
use Rattle.bridge.proofs.reading.read_first.Goals as goal

pub add_token-requires-clause-here : goal.add_token-requires-clause-here
add_token-requires-clause-here c = c.next_token.ensures.here _ _ _ _ _ c.utf8.text c.loop-left.invariant.stand c.in-Some.ensures.cases.0

pub returns-in_err-fault-clause-refused : goal.returns-in_err-fault-clause-refused
returns-in_err-fault-clause-refused c =
    handed_on c.from_residual-in_err-fault.result _ _ c.from_residual-in_err-fault.ensures.1
    (refuses (part_steps 0 c.args.count c.args.text.now c.args.tokens.now) c.args.text.now c.loop-left.start c.loop-left.left c.loop-left.rest.now c.in-Some.more.now
    c.in-Some.token.now c.loop-left.builder.tree _ c.loop-left-test.true c.in-Some.ensures.cases.0 c.loop-left.invariant.so_far c.in_err-fault.ensures.refused)

pub returns-in-Some-2-clause-read : goal.returns-in-Some-2-clause-read
returns-in-Some-2-clause-read c =
    reads_fault (part_steps 0 c.args.count c.args.text.now c.args.tokens.now) c.args.text.now c.loop-left.start c.loop-left.left c.loop-left.rest.now c.in-Some.more.now
    c.in-Some.token.now c.loop-left.builder.tree c.add_token.new.builder.tree c.in-Some-2.fault c.loop-left-test.true c.in-Some.ensures.cases.0 c.loop-left.invariant.so_far
    (subst (λ added. Takes (steps_at c.args.text.now c.loop-left.start c.in-Some.token.now c.in-Some.more.now) c.loop-left.builder.tree c.add_token.new.builder.tree added)
    c.in-Some-2.is c.in_ok-fault.ensures.takes)

pub overflow_add-start : goal.overflow_add-start
overflow_add-start c =
    let at = (c.next_token.ensures.here _ _ _ _ _ c.utf8.text c.loop-left.invariant.stand c.in-Some.ensures.cases.0) in
    let fits : c.loop-left.start + c.in-Some.token.now.len ≤ length c.args.text.now = at.stop.0 in
    omega arith

pub loop-left-preserved : goal.loop-left-preserved
loop-left-preserved c = record {
  stand = c.next_token.ensures.others _ _ _ _ _ c.utf8.text c.loop-left.invariant.stand c.in-Some.ensures.cases.0;
  so_far = reads_on (part_steps 0 c.args.count c.args.text.now c.args.tokens.now) c.args.text.now c.loop-left.start c.loop-left.left c.loop-left.rest.now c.in-Some.more.now
      c.in-Some.token.now c.loop-left.builder.tree c.add_token.new.builder.tree c.loop-left-test.true c.in-Some.ensures.cases.0 c.loop-left.invariant.so_far
      (subst (λ added. Takes (steps_at c.args.text.now c.loop-left.start c.in-Some.token.now c.in-Some.more.now) c.loop-left.builder.tree c.add_token.new.builder.tree added)
      c.in_default-2.is c.in_ok-fault.ensures.takes);
}
