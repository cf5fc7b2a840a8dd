-- By induction on the forest that is cut.
use Rattle.tt_data.specs.Flat.{front-joined, back-joined}
use Rattle.tt_data.proofs.ForestLemmas.{joined-front-back}
use Rattle.tt_data.proofs.laws.forests_cut.Goals as goal

pub returns-clause-whole : goal.returns-clause-whole
returns-clause-whole c = joined-front-back

pub returns-clause-first : goal.returns-clause-first
returns-clause-first c = front-joined

pub returns-clause-others : goal.returns-clause-others
returns-clause-others c = back-joined
