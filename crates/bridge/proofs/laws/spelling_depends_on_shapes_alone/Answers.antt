use Rattle.bridge.proofs.ShapeLemmas.{closing_spelled, next_alone, opening_spelled, own_alone}
use Rattle.bridge.proofs.SpanLemmas.{spelling_moved}
use Rattle.bridge.proofs.laws.spelling_depends_on_shapes_alone.Goals as goal

pub returns-clause-places : goal.returns-clause-places
returns-clause-places c = spelling_moved

pub returns-clause-next : goal.returns-clause-next
returns-clause-next c = next_alone

pub returns-clause-other : goal.returns-clause-other
returns-clause-other c = own_alone

pub returns-clause-opening : goal.returns-clause-opening
returns-clause-opening c = opening_spelled

pub returns-clause-closing : goal.returns-clause-closing
returns-clause-closing c = closing_spelled
