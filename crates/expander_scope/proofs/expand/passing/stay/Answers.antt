use Rattle.expander_scope.proofs.TurnLemmas.{call_passed}
use Rattle.expander_scope.proofs.expand.passing.stay.Goals as goal

pub keep-requires : goal.keep-requires
keep-requires g c = call_passed c.args.walk.now.trees.here c.args.call c.requires.call
