use Rattle.std.proofs.Common.{rules}
use Rattle.tt.proofs.view.TokenTreesView.split.Goals as goal

pub returns-clause-rest : goal.returns-clause-rest
returns-clause-rest c = search rules

pub returns-clause-test : goal.returns-clause-test
returns-clause-test c = search rules
