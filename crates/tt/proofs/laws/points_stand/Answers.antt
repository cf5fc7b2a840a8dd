use Rattle.tt.proofs.Reaching.{stands}
use Rattle.tt.proofs.laws.points_stand.Goals as goal

pub returns : goal.returns
returns c = stands
