-- The thread has come by iterations of one tree each.
use Rattle.tt.specs.Views.{forest}
use Rattle.mbe_matcher.proofs.GoingLemmas.{goes-singles}
use Rattle.mbe_matcher.proofs.RoundLemmas.{singles-lower}
use Rattle.mbe_matcher.proofs.thread.Thread.pass_singles.Goals as goal

pub returns-clause-passed : goal.returns-clause-passed
returns-clause-passed g c = λ ms s goes.
    goes-singles (g.G.FragmentGrammar.answer c.args.grammar.now) c.args.name.now c.args.kind ms s c.args.self.now c.args.place.now
    (forest c.in-Some.trees) c.in-Some.rest c.in_ok-self.field-0 goes c.in-Some.ensures c.in_ok-self.ensures

pub returns-clause-fewer : goal.returns-clause-fewer
returns-clause-fewer g c =
    singles-lower (g.G.FragmentGrammar.answer c.args.grammar.now) c.args.kind c.args.place.now.rest (forest c.in-Some.trees) c.in-Some.rest c.in-Some.ensures
