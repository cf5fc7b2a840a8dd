use Rattle.expander_model.proofs.SortLemmas.{in_order-same, in_order-is_sorted}
use Rattle.expander.proofs.laws.faults_are_put_in_order.Goals as goal

pub returns-clause-same : goal.returns-clause-same
returns-clause-same c = in_order-same

pub returns-clause-sorted : goal.returns-clause-sorted
returns-clause-sorted c = in_order-is_sorted
