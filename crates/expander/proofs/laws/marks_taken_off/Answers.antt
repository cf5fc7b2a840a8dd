use Rattle.expander_scope.proofs.MarkLemmas.{unmarked-marked}
use Rattle.expander.proofs.laws.marks_taken_off.Goals as goal

pub returns : goal.returns
returns c = unmarked-marked
