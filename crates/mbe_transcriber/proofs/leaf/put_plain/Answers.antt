use Rattle.std.proofs.Common.{subst}
use Rattle.mbe_rules.specs.Items.{done}
use Rattle.mbe_rules.specs.Ops.{put_op}
use Rattle.mbe_matcher.specs.Bound.{map_of}
use Rattle.mbe_transcriber.specs.Given.{FailsAfter, Fills, IsBurstBy}
use Rattle.mbe_transcriber.proofs.FillLemmas.{plain-gives, plain-puts}
use Rattle.mbe_transcriber.proofs.LoneLemmas.{none-put}
use Rattle.mbe_transcriber.proofs.leaf.put_plain.Goals as goal

pub returns-clause-filled : goal.returns-clause-filled
returns-clause-filled g c = λ mark is.
    subst (λ o. Fills c.put_item.result c.args.out.now.tree c.put_item.new.out.tree o)
    (plain-gives mark (map_of c.args.bindings.now) c.args.rounds.now (put_op c.args.op.now done) c.requires.plain)
    (c.put_item.ensures.filled mark is)

pub returns-clause-tokens : goal.returns-clause-tokens
returns-clause-tokens g c = λ mark is.
    subst (λ n. IsBurstBy c.put_item.result c.args.out.now.tree n)
    (plain-puts mark (map_of c.args.bindings.now) c.args.rounds.now (put_op c.args.op.now done) c.requires.plain)
    (c.put_item.ensures.tokens mark is)

pub returns-clause-fails : goal.returns-clause-fails
returns-clause-fails g c = λ mark is.
    subst (λ n. FailsAfter c.put_item.result c.args.out.now.tree c.put_item.new.out.tree n)
    (plain-puts mark (map_of c.args.bindings.now) c.args.rounds.now (put_op c.args.op.now done) c.requires.plain)
    (none-put c.put_item.result c.args.out.now.tree c.put_item.new.out.tree _ (c.put_item.ensures.filled mark is) (c.put_item.ensures.same mark is))
