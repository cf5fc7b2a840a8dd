use Rattle.mbe_matcher.specs.Places.{place_of}
use Rattle.mbe_matcher.proofs.OpsLemmas.{no-round}
use Rattle.mbe_matcher.proofs.WayLemmas.{if-only}
use Rattle.mbe_matcher.proofs.thread.Thread.only_after.Goals as goal

pub choice_after-requires-clause-outside : goal.choice_after-requires-clause-outside
choice_after-requires-clause-outside c = no-round c.args.frame c.in_default.not-InRound

pub returns-in_ok-choice-in_default : goal.returns-in_ok-choice-in_default
returns-in_ok-choice-in_default c = λ gr.
    if-only gr (place_of c.args.place.now) c.args.self.now c.in_ok-choice-in_default.choice (c.in_ok-choice-in_default.ensures gr)
