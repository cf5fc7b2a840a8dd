-- The thread has come by one more iteration.
use Rattle.std.proofs.Common.{◌∙◌, ap, [], ◌∷◌, ◌++◌}
use Rattle.mbe_matcher.specs.Readings as r
use Rattle.mbe_matcher.specs.Threads.{moves_of}
use Rattle.mbe_matcher.proofs.GoingLemmas.{goes-round}
use Rattle.mbe_matcher.proofs.RoundLemmas.{round-lowers}
use Rattle.mbe_matcher.proofs.thread.Thread.pass_round.Goals as goal

pub returns-clause-passed : goal.returns-clause-passed
returns-clause-passed g c = λ ms s goes.
    let some = c.in-Some.ensures in
    let n = c.args.name.now in
    let k = c.args.kind in
    let moves = moves_of c.args.self.now.moves in
    goes-round (g.G.FragmentGrammar.answer c.args.grammar.now) n k ms s c.args.self.now c.args.place.now c.in-Some.count
    c.in_ok-self.field-0 c.parted-rest.result.1 goes some.2 some.0 some.1
    (c.in_ok-self.ensures ∙ ap (λ f. moves ++ (r.next_round ∷ r.fragment_move n k f ∷ [])) c.parted-rest.ensures.first)
    c.parted-rest.ensures.rest

pub returns-clause-fewer : goal.returns-clause-fewer
returns-clause-fewer g c =
    let some = c.in-Some.ensures in
    round-lowers (g.G.FragmentGrammar.answer c.args.grammar.now) c.args.kind c.in-Some.count c.args.place.now.rest c.parted-rest.result.1
    some.0 some.1 c.parted-rest.ensures.rest
