use Rattle.tt.proofs.WalkLemmas.{step, done}
use Rattle.tt.proofs.laws.walk_of_a_cursor.Goals as goal

pub returns-clause-step : goal.returns-clause-step
returns-clause-step c = step

pub returns-clause-done : goal.returns-clause-done
returns-clause-done c = done
