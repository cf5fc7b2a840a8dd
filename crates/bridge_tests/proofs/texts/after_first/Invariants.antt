use Rattle.rustc_lexer.specs.TokensAt.{AreTokensFrom}
use Rattle.bridge_tests.proofs.texts.after_first.Given as goal

abbrev pub invariant-loop-left : goal.invariant-loop-left
invariant-loop-left l = AreTokensFrom l.text l.start l.rest

abbrev pub decreases-loop-left : goal.decreases-loop-left
decreases-loop-left l = l.left
