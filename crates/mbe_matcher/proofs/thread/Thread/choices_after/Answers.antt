use Rattle.mbe_matcher.proofs.OpsLemmas.{no-round}
use Rattle.mbe_matcher.proofs.thread.Thread.choices_after.Goals as goal

pub choice_after-requires-clause-outside : goal.choice_after-requires-clause-outside
choice_after-requires-clause-outside c = no-round c.args.frame c.in_default.not-InRound
