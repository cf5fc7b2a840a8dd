use Rattle.std.proofs.Common.{◌∙◌, ap, [], ◌∷◌, ◌++◌}
use Rattle.mbe_rules.specs.Items.{done}
use Rattle.mbe_rules.specs.Ops.{items_of, put_op}
use Rattle.mbe_matcher.specs.Bound.{map_of}
use Rattle.mbe_transcriber.specs.Filling.{names}
use Rattle.mbe_transcriber.specs.Uses.{together, use_at, uses_of}
use Rattle.mbe_transcriber.specs.Walks.{names_first, names_left}
use Rattle.mbe_transcriber.proofs.UsesLemmas.{walk-used}
use Rattle.mbe_transcriber.proofs.repetition_vars.length_of_all.Goals as goal

pub loop-walk-preserved : goal.loop-walk-preserved
loop-walk-preserved c = λ k fits.
    walk-used (c.args.rounds.now ++ (k ∷ [])) (map_of c.args.bindings.now) (use_at k c.loop-walk.all) (use_at k c.least-all.result) (use_at k c.length_of_op.result)
    (names_left c.loop-walk.walk) (names (put_op c.in-Some.op.now done)) (names_left c.next.new.self)
    (together (uses_of (c.args.rounds.now ++ (k ∷ [])) (map_of c.args.bindings.now) (names (items_of c.args.ops.now)))) (c.least-all.ensures k) (c.length_of_op.ensures k fits)
    (c.in_ok-op.ensures.names ∙ ap (λ o. names_first o ++ names_left c.next.new.self) c.in-Some.is) (c.loop-walk.invariant k fits)
