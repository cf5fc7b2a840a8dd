use Rattle.std.proofs.Common.{ap, ◌∙◌, subst}
use Rattle.mbe_rules.specs.Items.{done}
use Rattle.mbe_rules.specs.Ops.{put_op}
use Rattle.mbe_matcher.specs.Bound.{map_of}
use Rattle.mbe_transcriber.specs.Given.{Fills, IsBurstBy, dollar_gives}
use Rattle.mbe_transcriber.specs.Output.{size_of}
use Rattle.mbe_transcriber.proofs.LeafLemmas.{plain-dollar}
use Rattle.mbe_transcriber.proofs.LoneLemmas.{never-fails}
use Rattle.mbe_transcriber.proofs.leaf.put_item.Goals as goal

pub returns-in-Some-clause-filled : goal.returns-in-Some-clause-filled
returns-in-Some-clause-filled g c = λ mark is.
    subst (λ o. Fills c.put_dollar.result c.args.out.now.tree c.put_dollar.new.out.tree o)
    (ap (λ s. dollar_gives mark (map_of c.args.bindings.now) c.args.rounds.now (put_op c.args.op.now done) s) (c.marked.ensures mark is)
    ∙ plain-dollar mark (map_of c.args.bindings.now) c.args.rounds.now (put_op c.args.op.now done) c.in-Some.place c.in-Some.ensures)
    (c.put_dollar.ensures.filled mark)

pub returns-in-Some-clause-tokens : goal.returns-in-Some-clause-tokens
returns-in-Some-clause-tokens g c = λ mark is.
    subst (λ o. IsBurstBy c.put_dollar.result c.args.out.now.tree (size_of o))
    (ap (λ s. dollar_gives mark (map_of c.args.bindings.now) c.args.rounds.now (put_op c.args.op.now done) s) (c.marked.ensures mark is)
    ∙ plain-dollar mark (map_of c.args.bindings.now) c.args.rounds.now (put_op c.args.op.now done) c.in-Some.place c.in-Some.ensures)
    (c.put_dollar.ensures.tokens mark)

pub returns-in-Literal-clause-same : goal.returns-in-Literal-clause-same
returns-in-Literal-clause-same g c = λ mark is.
    never-fails c.put_literal.result c.args.out.now.tree c.put_literal.new.out.tree c.args.out.now.tree c.put_literal.new.out.tree _ (c.put_literal.ensures.filled mark is)

pub returns-in-Ident-clause-same : goal.returns-in-Ident-clause-same
returns-in-Ident-clause-same g c = λ mark is.
    never-fails c.put_ident.result c.args.out.now.tree c.put_ident.new.out.tree c.args.out.now.tree c.put_ident.new.out.tree _ (c.put_ident.ensures.filled mark is)

pub returns-in-Punct-clause-same : goal.returns-in-Punct-clause-same
returns-in-Punct-clause-same g c = λ mark is.
    never-fails c.put_marked_puncts.result c.args.out.now.tree c.put_marked_puncts.new.out.tree c.args.out.now.tree c.put_marked_puncts.new.out.tree _ (c.put_marked_puncts.ensures.filled mark is)

pub returns-in-Lifetime-clause-same : goal.returns-in-Lifetime-clause-same
returns-in-Lifetime-clause-same g c = λ mark is.
    never-fails c.put_marked_lifetime.result c.args.out.now.tree c.put_marked_lifetime.new.out.tree c.args.out.now.tree c.put_marked_lifetime.new.out.tree _ (c.put_marked_lifetime.ensures.filled mark is)
