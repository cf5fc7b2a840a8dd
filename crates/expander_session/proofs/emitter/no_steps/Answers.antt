use Rattle.std.proofs.Common.{◌++◌, ap, ◌∙◌}
use Rattle.expander_session.specs.Emitting.{faults_at, numbers_left_out, told_from}
use Rattle.expander_model.specs.Printing.{visible}
use Rattle.expander_session.proofs.PrintingLemmas.{nothing_told}
use Rattle.expander_session.proofs.emitter.no_steps.Goals as goal

pub returns : goal.returns
returns c = record {
  printer = c.in_ok-printer.ensures;
  told = λ more. ap (λ l. faults_at (l ++ told_from 0 (visible more)) (numbers_left_out more)) c.new.ensures.items ∙ nothing_told more;
  nested = c.new-2.ensures.items;
}
