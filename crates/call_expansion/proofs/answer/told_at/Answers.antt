use Rattle.std.proofs.Common.{◌++◌, ap}
use Rattle.call_expansion.specs.Answers.{told_at}
use Rattle.call_expansion.proofs.AnswerLemmas.{told_all}
use Rattle.call_expansion.proofs.answer.told_at.Goals as goal

pub loop-fault-init : goal.loop-fault-init
loop-fault-init c = ap (λ l. l ++ told_at c.args.name c.args.faults.now) c.new-told.ensures.items

pub returns : goal.returns
returns c = told_all c.args.name c.args.faults.now c.loop-fault.fault-index c.loop-fault.told.items _ c.loop-fault-test.false c.loop-fault.invariant
