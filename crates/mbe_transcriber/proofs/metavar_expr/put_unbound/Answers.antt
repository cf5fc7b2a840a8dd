use Rattle.std.proofs.Common.{Some, subst}
use Rattle.tt_data.specs.Forest.{empty, leaf}
use Rattle.tt_data.specs.declared.leaf.IdentIsRaw.TheVariants.{No}
use Rattle.tt_data.specs.declared.leaf.Leaf.TheVariants as as_leaf
use Rattle.tt_data.specs.declared.leaf.Spacing.TheVariants.{Alone}
use Rattle.mbe_transcriber.specs.Filling.{punct_at, unbound}
use Rattle.mbe_transcriber.specs.Limits.{most_rounds}
use Rattle.mbe_transcriber.specs.Given.{Fills}
use Rattle.mbe_transcriber.specs.Markers.{is_name}
use Rattle.mbe_transcriber.proofs.LeafLemmas.{fills-after, burst-after}
use Rattle.mbe_transcriber.proofs.metavar_expr.put_unbound.Goals as goal

pub returns-clause-filled : goal.returns-clause-filled
returns-clause-filled c = λ mark bound.
    subst (λ n. Fills c.put_leaf.result c.args.out.now.tree c.put_leaf.new.out.tree (Some (unbound is_name most_rounds mark bound n c.args.span)))
    c.in_ok-sym.ensures.cases
    (fills-after c.put_leaf.result c.args.out.now.tree c.push.new.self.tree c.put_leaf.new.out.tree (leaf (punct_at 36 Alone c.args.span) empty)
    (Some (leaf (as_leaf.Ident (record { sym = c.in_ok-sym.sym; span = c.args.span; is_raw = No })) empty))
    c.in_ok-push.ensures.ok c.put_leaf.ensures.filled)

pub returns-clause-tokens : goal.returns-clause-tokens
returns-clause-tokens c =
    burst-after c.put_leaf.result c.args.out.now.tree c.push.new.self.tree (leaf (punct_at 36 Alone c.args.span) empty) 1
    c.in_ok-push.ensures.ok c.put_leaf.ensures.tokens
