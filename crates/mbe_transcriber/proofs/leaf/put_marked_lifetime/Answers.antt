use Rattle.std.proofs.Common.{ap, ◌∙◌, Some}
use Rattle.tt_data.specs.Spans.{leaf_with}
use Rattle.tt.specs.Building.{pushed}
use Rattle.tt_data.specs.Forest.{empty, leaf}
use Rattle.tt_data.specs.declared.leaf.Leaf.TheVariants as as_leaf
use Rattle.mbe_transcriber.proofs.LeafLemmas.{fills-after, burst-after}
use Rattle.mbe_transcriber.proofs.leaf.put_marked_lifetime.Goals as goal

pub returns-clause-filled : goal.returns-clause-filled
returns-clause-filled g c = λ mark is.
    fills-after c.put_ident.result c.args.out.now.tree c.push.new.self.tree c.put_ident.new.out.tree
    (leaf (as_leaf.Punct (record { char = c.args.quote.char; spacing = c.args.quote.spacing; span = mark c.args.quote.span })) empty)
    (Some (leaf (leaf_with mark (as_leaf.Ident c.args.name.now)) empty))
    (c.in_ok-push.ensures.ok
    ∙ ap (λ s. pushed c.args.out.now.tree (as_leaf.Punct (record { char = c.args.quote.char; spacing = c.args.quote.spacing; span = s }))) (c.marked-span.ensures mark is))
    (c.put_ident.ensures.filled mark is)

pub returns-clause-tokens : goal.returns-clause-tokens
returns-clause-tokens g c =
    burst-after c.put_ident.result c.args.out.now.tree c.push.new.self.tree (leaf _ empty) 1 c.in_ok-push.ensures.ok c.put_ident.ensures.tokens
