use Rattle.line_index.proofs.PositionLemmas.{offset_of-position}
use Rattle.line_index.proofs.laws.positions_lead_back.Goals as goal

pub returns : goal.returns
returns c = offset_of-position
