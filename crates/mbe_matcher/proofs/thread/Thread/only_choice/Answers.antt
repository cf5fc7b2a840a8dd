use Rattle.mbe_matcher.specs.Places.{place_of}
use Rattle.mbe_matcher.proofs.WayLemmas.{if-only}
use Rattle.mbe_matcher.proofs.thread.Thread.only_choice.Goals as goal

pub returns-in_ok-choice-in-None : goal.returns-in_ok-choice-in-None
returns-in_ok-choice-in-None g c =
    if-only (g.G.FragmentGrammar.answer c.args.grammar.now) (place_of c.args.place.now) c.args.self.now
    c.in_ok-choice-in-None.choice c.in_ok-choice-in-None.ensures
