use Rattle.std.proofs.Common.{◌∙◌, map, sym}
use Rattle.expander_scope.specs.Outcomes.{placed_of}
use Rattle.call_expansion.specs.Answers.{chosen}
use Rattle.call_expansion.proofs.AnswerLemmas.{chosen_here, chosen_last, chosen_later, or_nothing}
use Rattle.call_expansion.proofs.answer.chosen.Goals as goal

pub loop-call-init : goal.loop-call-init
loop-call-init c = or_nothing (chosen (map placed_of c.args.by.now.events.now) c.args.by.now.faults.now c.args.calls.now)

pub returns-then-is_told : goal.returns-then-is_told
returns-then-is_told c =
    chosen_here (map placed_of c.args.by.now.events.now) c.args.by.now.faults.now c.args.calls.now c.loop-call.call-index _ c.loop-call-test.true c.loop-call.last
    (sym c.is_told.ensures ∙ c.if-is_told.true) c.loop-call.invariant

pub loop-call-preserved : goal.loop-call-preserved
loop-call-preserved c =
    chosen_later (map placed_of c.args.by.now.events.now) c.args.by.now.faults.now c.args.calls.now c.loop-call.call-index _ c.loop-call-test.true c.loop-call.last
    (sym c.is_told.ensures ∙ c.if-is_told.false) c.loop-call.invariant

pub returns : goal.returns
returns c =
    chosen_last (map placed_of c.args.by.now.events.now) c.args.by.now.faults.now c.args.calls.now c.loop-call.call-index c.loop-call.last c.loop-call-test.false c.loop-call.invariant
