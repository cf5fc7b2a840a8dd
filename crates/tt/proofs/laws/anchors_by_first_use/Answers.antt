use Rattle.tt.proofs.RelabellingLemmas.{all_there, once}
use Rattle.tt.proofs.laws.anchors_by_first_use.Goals as goal

pub returns-clause-once : goal.returns-clause-once
returns-clause-once c = once

pub returns-clause-all : goal.returns-clause-all
returns-clause-all c = all_there
