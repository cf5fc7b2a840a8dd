use Rattle.bridge.proofs.PartLemmas.{reading-moved, relative_first, relative_on}
use Rattle.bridge.proofs.laws.parts_at_other_places.Goals as goal

pub returns-clause-steps : goal.returns-clause-steps
returns-clause-steps c = reading-moved

pub returns-clause-relative : goal.returns-clause-relative
returns-clause-relative c = relative_on

pub returns-clause-first : goal.returns-clause-first
returns-clause-first c = relative_first
