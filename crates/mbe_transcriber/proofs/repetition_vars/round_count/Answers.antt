use Rattle.std.proofs.Common.{[], ◌∷◌, ◌++◌}
use Rattle.mbe_rules.specs.Ops.{items_of}
use Rattle.mbe_matcher.specs.Bound.{map_of}
use Rattle.mbe_transcriber.specs.Filling.{names}
use Rattle.mbe_transcriber.specs.Uses.{uses_of}
use Rattle.mbe_transcriber.proofs.UsesLemmas.{stands-below, stands-never}
use Rattle.mbe_transcriber.proofs.repetition_vars.round_count.Goals as goal

pub returns-in-Some : goal.returns-in-Some
returns-in-Some c = λ k fits.
    stands-below k c.in-Some.count _ (uses_of (c.args.rounds.now ++ (k ∷ [])) (map_of c.args.bindings.now) (names (items_of c.args.body.now))) c.in-Some.is
    (c.in_ok-count.ensures k fits)

pub returns-in-None : goal.returns-in-None
returns-in-None c = λ k fits.
    stands-never k _ (uses_of (c.args.rounds.now ++ (k ∷ [])) (map_of c.args.bindings.now) (names (items_of c.args.body.now))) c.in-None.is
    (c.in_ok-count.ensures k fits)
